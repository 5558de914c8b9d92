-- The text of a path is ASCII, so its bytes are its characters.
use Rattle.std.proofs.Common.{◌≡◌, ℕ, zero, suc, ◌<◌, ◌≤◌, ◌^◌, List, [], ◌∷◌, ◌++◌, length, get_or, drop, sym, ap, ◌∙◌, subst, arith, append-nil, lit<}
use Rattle.std.proofs.lemmas.List.{drop_all}
use Rattle.std.proofs.lemmas.Str.{IsAscii-append, chars-IsAscii}
use Rattle.std.proofs.lemmas.Str.Ascii.{IsAscii-nil}
use Rattle.std.proofs.lemmas.Fmt.{IsAscii-decimal_wide}
use Rattle.std.specs.Str.{IsAscii, chars}
use Rattle.std.specs.Fmt.{decimal}
use Rattle.xml_tree.specs.PathTexts.{steps_text, path_text}

opening : IsAscii (47 ∷ 42 ∷ 91 ∷ [])
opening zero = lit< tt
opening (suc zero) = lit< tt
opening (suc (suc zero)) = lit< tt
opening (suc (suc (suc i))) = lit< tt

single : (c : ℕ) → c < 128 → IsAscii (c ∷ [])
single c lt zero = lt
single c lt (suc i) = lit< tt

fits : (n : ℕ) → n < 2 ^ 64 → suc n < 10 ^ 64
fits n lt = omega arith

steps_ascii : (p : List ℕ) → ((i : ℕ) → i < length p → get_or p i 0 < 2 ^ 64) → IsAscii (steps_text p)
steps_ascii [] all = IsAscii-nil
steps_ascii (n ∷ p) all =
    IsAscii-append (47 ∷ 42 ∷ 91 ∷ []) (decimal (suc n) ++ (93 ∷ [] ++ steps_text p)) opening
    (IsAscii-append (decimal (suc n)) (93 ∷ [] ++ steps_text p) (IsAscii-decimal_wide (suc n) (fits n (all 0 (omega arith))))
    (IsAscii-append (93 ∷ []) (steps_text p) (single 93 (lit< tt)) (steps_ascii p (λ i lt. all (suc i) (omega arith)))))

pub path_letters : (p : List ℕ) → ((i : ℕ) → i < length p → get_or p i 0 < 2 ^ 64) → chars (path_text p) ≡ path_text p
path_letters p all = chars-IsAscii (path_text p) (IsAscii-append (42 ∷ []) (steps_text p) (single 42 (lit< tt)) (steps_ascii p all))

pub printed : (p ns bytes text : List ℕ) (i : ℕ) → ns ≡ p → ((k : ℕ) → k < length ns → get_or ns k 0 < 2 ^ 64) → length ns ≤ i → bytes ++ steps_text (drop i ns) ≡ path_text p → text ≡ chars bytes → text ≡ path_text p
printed p ns bytes text i same all end so_far is =
    let whole : bytes ≡ path_text p = sym (append-nil bytes) ∙ ap (λ (l : List ℕ). bytes ++ steps_text l) (sym (drop_all i ns end)) ∙ so_far in
    is ∙ ap chars whole ∙ path_letters p (subst (λ (l : List ℕ). (k : ℕ) → k < length l → get_or l k 0 < 2 ^ 64) same all)
