-- Numbers and steps of paths as texts: they are ASCII, so their bytes are their characters.
use Rattle.std.proofs.Common.{◌≡◌, ℕ, zero, suc, ◌+◌, ◌<◌, ◌^◌, List, [], ◌∷◌, ◌++◌, codes, refl, sym, ap, ◌∙◌, append_assoc, add-one, arith, lit<}
use Rattle.std.proofs.lemmas.Str.{IsAscii-append, chars-IsAscii}
use Rattle.std.proofs.lemmas.Fmt.{IsAscii-decimal_wide}
use Rattle.std.specs.Str.{IsAscii, chars}
use Rattle.std.specs.Fmt.{decimal}
use Rattle.xml_tree.specs.PathTexts.{steps_text, path_text}
use Rattle.patch_rules.specs.Notices.{candidate_prefix}

wide : (n : ℕ) → n < 2 ^ 64 → n < 10 ^ 64
wide n lt = omega arith

pub number : (n : ℕ) → n < 2 ^ 64 → chars (decimal n) ≡ decimal n
number n lt = chars-IsAscii (decimal n) (IsAscii-decimal_wide n (wide n lt))

letter_d : IsAscii (100 ∷ [])
letter_d zero = lit< tt
letter_d (suc i) = lit< tt

pub numbered : (n : ℕ) → suc n < 2 ^ 64 → chars (100 ∷ decimal (suc n)) ≡ candidate_prefix (suc n)
numbered n lt = chars-IsAscii (100 ∷ decimal (suc n)) (IsAscii-append (100 ∷ []) (decimal (suc n)) letter_d (IsAscii-decimal_wide (suc n) (wide (suc n) lt)))

pub lettered : (n : ℕ) (bytes text : List ℕ) → (n ≡ 0 → ⊥) → n < 2 ^ 64 → bytes ≡ 100 ∷ decimal n → text ≡ chars bytes → text ≡ candidate_prefix n
lettered zero bytes text some lt is made = absurd (some refl)
lettered (suc n) bytes text some lt is made = made ∙ ap chars is ∙ numbered n lt

-- ---- one step more

abbrev step : ℕ → List ℕ
step n = codes "/*[" ++ (decimal (suc n) ++ codes "]")

steps_added : (p : List ℕ) (n : ℕ) → steps_text (p ++ n ∷ []) ≡ steps_text p ++ step n
steps_added [] n = refl
steps_added (m ∷ p) n =
    let A = codes "/*[" in let B = decimal (suc m) in let C = codes "]" in let S = steps_text p in let T = step n in
    ap (λ (l : List ℕ). A ++ (B ++ (C ++ l))) (steps_added p n)
    ∙ ap (λ (l : List ℕ). A ++ (B ++ l)) (sym (append_assoc C S T))
    ∙ ap (λ (l : List ℕ). A ++ l) (sym (append_assoc B (C ++ S) T))
    ∙ sym (append_assoc A (B ++ (C ++ S)) T)

opening : IsAscii (47 ∷ 42 ∷ 91 ∷ [])
opening zero = lit< tt
opening (suc zero) = lit< tt
opening (suc (suc zero)) = lit< tt
opening (suc (suc (suc i))) = lit< tt

closing : IsAscii (93 ∷ [])
closing zero = lit< tt
closing (suc i) = lit< tt

far : (n : ℕ) → n < 2 ^ 64 → suc n < 10 ^ 64
far n lt = omega arith

step_ascii : (n : ℕ) → n < 2 ^ 64 → IsAscii (step n)
step_ascii n lt = IsAscii-append (47 ∷ 42 ∷ 91 ∷ []) (decimal (suc n) ++ 93 ∷ []) opening (IsAscii-append (decimal (suc n)) (93 ∷ []) (IsAscii-decimal_wide (suc n) (far n lt)) closing)

-- the path's text, and after it the bytes of a step
pub path_added : (p before after bytes : List ℕ) (n : ℕ) → n < 2 ^ 64 → before ≡ path_text p → bytes ≡ 47 ∷ 42 ∷ 91 ∷ (decimal (n + 1) ++ 93 ∷ []) → after ≡ before ++ chars bytes → after ≡ path_text (p ++ n ∷ [])
path_added p before after bytes n lt first is second =
    let spelled : bytes ≡ step n = is ∙ ap (λ (k : ℕ). 47 ∷ 42 ∷ 91 ∷ (decimal k ++ 93 ∷ [])) (add-one n) in
    second ∙ ap (λ (l : List ℕ). l ++ chars bytes) first ∙ ap (λ (l : List ℕ). path_text p ++ l) (ap chars spelled ∙ chars-IsAscii (step n) (step_ascii n lt))
    ∙ ap (λ (l : List ℕ). codes "*" ++ l) (sym (steps_added p n))
