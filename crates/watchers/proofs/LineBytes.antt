-- The bytes of the parts of a line.
use Rattle.std.proofs.Common.{◌≡◌, ◌≢◌, ℕ, zero, suc, ◌+◌, ◌<◌, ◌^◌, if◌then◌else◌, List, [], ◌∷◌, ◌++◌, codes, encode_utf8_all, bytes_eq, refl, sym, ap, ◌∙◌, ⊎_elim, append_assoc, add-one, arith, lit<}
use Rattle.std.proofs.lemmas.Bool.{cases_Bool}
use Rattle.std.proofs.lemmas.Str.{encodes-append, encode_ascii, encodes-IsAscii, IsAscii-append}
use Rattle.std.proofs.lemmas.Fmt.{IsAscii-decimal_wide}
use Rattle.std.specs.Str.{IsAscii}
use Rattle.std.specs.Cmp.Lexicographic.{bytes_decides}
use Rattle.std.specs.Fmt.{decimal}
use Rattle.xml_names.specs.Markup.{print_name}
use Rattle.xml_names.specs.declared.names.Name.{Name}
use Rattle.xml_tree.specs.PathTexts.{path_text, steps_text}
use Rattle.watchers.specs.AuditLines.{place_bytes}

-- a name with a prefix
prefixed_name : (n : Name) → n.prefix ≢ [] → encode_utf8_all (print_name n) ≡ encode_utf8_all n.prefix ++ 58 ∷ encode_utf8_all n.local
prefixed_name n some =
    ⊎_elim
    (λ h. absurd (some ((bytes_decides n.prefix []).0 h)))
    (λ h. ap (λ t. encode_utf8_all (if t then n.local else (n.prefix ++ 58 ∷ n.local))) h ∙ encodes-append n.prefix (58 ∷ n.local) ∙ ap (λ (l : List ℕ). encode_utf8_all n.prefix ++ (l ++ encode_utf8_all n.local)) (encode_ascii 58 (lit< tt)))
    (cases_Bool (bytes_eq n.prefix []))

pub in_three : (n : Name) (a b c d : List ℕ) → n.prefix ≢ [] → b ≡ a ++ encode_utf8_all n.prefix → c ≡ b ++ 58 ∷ [] → d ≡ c ++ encode_utf8_all n.local → d ≡ a ++ encode_utf8_all (print_name n)
in_three n a b c d some first second third =
    third ∙ ap (λ (l : List ℕ). l ++ encode_utf8_all n.local) (second ∙ ap (λ (l : List ℕ). l ++ 58 ∷ []) first)
    ∙ ap (λ (l : List ℕ). l ++ encode_utf8_all n.local) (append_assoc a (encode_utf8_all n.prefix) (58 ∷ []))
    ∙ append_assoc a (encode_utf8_all n.prefix ++ 58 ∷ []) (encode_utf8_all n.local)
    ∙ ap (λ (l : List ℕ). a ++ l) (append_assoc (encode_utf8_all n.prefix) (58 ∷ []) (encode_utf8_all n.local) ∙ sym (prefixed_name n some))

-- the selector of a place, and one more step
abbrev pub step_text : ℕ → List ℕ
step_text n = codes "/*[" ++ (decimal (suc n) ++ codes "]")

steps_added : (p : List ℕ) (n : ℕ) → steps_text (p ++ n ∷ []) ≡ steps_text p ++ step_text n
steps_added [] n = refl
steps_added (m ∷ p) n =
    let A = codes "/*[" in let B = decimal (suc m) in let C = codes "]" in let S = steps_text p in let T = step_text n in
    ap (λ (l : List ℕ). A ++ (B ++ (C ++ l))) (steps_added p n)
    ∙ ap (λ (l : List ℕ). A ++ (B ++ l)) (sym (append_assoc C S T))
    ∙ ap (λ (l : List ℕ). A ++ l) (sym (append_assoc B (C ++ S) T))
    ∙ sym (append_assoc A (B ++ (C ++ S)) T)

opening : IsAscii (47 ∷ 42 ∷ 91 ∷ [])
opening zero = lit< tt
opening (suc zero) = lit< tt
opening (suc (suc zero)) = lit< tt
opening (suc (suc (suc i))) = lit< tt

closing : IsAscii (93 ∷ [])
closing zero = lit< tt
closing (suc i) = lit< tt

wide : (n : ℕ) → n < 2 ^ 64 → suc n < 10 ^ 64
wide n lt = omega arith

step_ascii : (n : ℕ) → n < 2 ^ 64 → IsAscii (step_text n)
step_ascii n lt = IsAscii-append (47 ∷ 42 ∷ 91 ∷ []) (decimal (suc n) ++ 93 ∷ []) opening (IsAscii-append (decimal (suc n)) (93 ∷ []) (IsAscii-decimal_wide (suc n) (wide n lt)) closing)

path_added : (p : List ℕ) (n : ℕ) → n < 2 ^ 64 → encode_utf8_all (path_text (p ++ n ∷ [])) ≡ encode_utf8_all (path_text p) ++ step_text n
path_added p n lt =
    ap (λ (l : List ℕ). encode_utf8_all (codes "*" ++ l)) (steps_added p n) ∙ encodes-append (path_text p) (step_text n)
    ∙ ap (λ (l : List ℕ). encode_utf8_all (path_text p) ++ l) (encodes-IsAscii (step_text n) (step_ascii n lt))

pub one_step_more : (before mid after step : List ℕ) (p : List ℕ) (n : ℕ) → n < 2 ^ 64 → mid ≡ before ++ place_bytes (codes "insert") p → step ≡ 47 ∷ 42 ∷ 91 ∷ (decimal (n + 1) ++ 93 ∷ []) → after ≡ mid ++ step → after ≡ before ++ place_bytes (codes "insert") (p ++ n ∷ [])
one_step_more before mid after step p n lt first is second =
    let spelled : step ≡ step_text n = is ∙ ap (λ (k : ℕ). 47 ∷ 42 ∷ 91 ∷ (decimal k ++ 93 ∷ [])) (add-one n) in
    second ∙ ap (λ (l : List ℕ). l ++ step) first ∙ append_assoc before (place_bytes (codes "insert") p) step
    ∙ ap (λ (l : List ℕ). before ++ (codes "insert" ++ (codes " " ++ (encode_utf8_all (path_text p) ++ l)))) spelled
    ∙ ap (λ (l : List ℕ). before ++ (codes "insert" ++ (codes " " ++ l))) (sym (path_added p n lt))
