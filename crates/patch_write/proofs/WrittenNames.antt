-- Names as they are written, with a prefix or without.
use Rattle.std.proofs.Common.{◌≡◌, ℕ, if◌then◌else◌, Bool, true, false, List, [], ◌∷◌, ◌++◌, bytes_eq, refl, sym, ap, ◌∙◌, append_assoc}
use Rattle.std.specs.Cmp.Lexicographic.{bytes_decides}
use Rattle.xml_names.specs.Markup.{print_name}
use Rattle.xml_names.specs.declared.names.Name.{Name}

pub bare_name : (n : Name) → n.prefix ≡ [] → print_name n ≡ n.local
bare_name n none = ap (λ (b : Bool). if b then n.local else (n.prefix ++ 58 ∷ n.local)) ((bytes_decides n.prefix []).1 none)

prefixed_name : (n : Name) → (n.prefix ≡ [] → ⊥) → print_name n ≡ n.prefix ++ 58 ∷ n.local
prefixed_name n some = ap (λ (b : Bool). if b then n.local else (n.prefix ++ 58 ∷ n.local)) (unequal (bytes_eq n.prefix []) (λ e. some ((bytes_decides n.prefix []).0 e)))
  where
    unequal : (b : Bool) → (b ≡ true → ⊥) → b ≡ false
    unequal true f = absurd (f refl)
    unequal false f = refl

pub in_three : (n : Name) (a b d e : List ℕ) → (n.prefix ≡ [] → ⊥) → b ≡ a ++ n.prefix → d ≡ b ++ 58 ∷ [] → e ≡ d ++ n.local → e ≡ a ++ print_name n
in_three n a b d e some first second third =
    third ∙ ap (λ (l : List ℕ). l ++ n.local) (second ∙ ap (λ (l : List ℕ). l ++ 58 ∷ []) first)
    ∙ append_assoc (a ++ n.prefix) (58 ∷ []) n.local ∙ append_assoc a n.prefix (58 ∷ n.local) ∙ ap (λ (l : List ℕ). a ++ l) (sym (prefixed_name n some))
