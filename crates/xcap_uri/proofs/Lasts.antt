-- A text without its last character.
use Rattle.std.proofs.Common.{◌≡◌, ℕ, ◌≤◌, List, [], ◌∷◌, ◌++◌, length, Option, Some, None, refl, sym, ap, ◌∙◌, subst, arith, encode_utf8, MatchOption}
use Rattle.std.specs.Str.{IsUtf8, chars}
use Rattle.std.proofs.Math.Seq.{take-append_seam, drop-append_seam}
use Rattle.std.proofs.lemmas.List.{length-append, append-nil}
use Rattle.std.proofs.lemmas.Str.{IsCharBoundary-from_take, IsUtf8-drop, chars-append, chars-nil, chars_past_char}

-- lists that end in one item each and are equal begin equally
same_front : (xs ys : List ℕ) (x y : ℕ) → xs ++ x ∷ [] ≡ ys ++ y ∷ [] → xs ≡ ys
same_front [] [] x y e = refl
same_front [] (b ∷ ys) x y e = absurd (omega (arith, ap length e, length-append ys (y ∷ [])))
same_front (a ∷ xs) [] x y e = absurd (omega (arith, ap length e, length-append xs (x ∷ [])))
same_front (a ∷ xs) (b ∷ ys) x y e =
    let heads : a ≡ b = cc in
    let tails : xs ++ x ∷ [] ≡ ys ++ y ∷ [] = cc in
    let fronts = same_front xs ys x y tails in
    cc

-- what comes after a text in a text is a text
behind : (rest tail : List ℕ) → IsUtf8 (rest ++ tail) → IsUtf8 rest → IsUtf8 tail
behind rest tail whole front =
    let within : length rest ≤ length (rest ++ tail) = omega (arith, length-append rest tail) in
    let cut = IsCharBoundary-from_take (rest ++ tail) (length rest) whole within (subst IsUtf8 (sym (take-append_seam rest tail)) front) in
    subst IsUtf8 (drop-append_seam rest tail) (IsUtf8-drop (rest ++ tail) (length rest) whole cut)

-- the characters of a text that ends in a character
last_off : (text rest front : List ℕ) (d c : ℕ) → IsUtf8 text → IsUtf8 rest → text ≡ rest ++ encode_utf8 d → chars text ≡ front ++ c ∷ [] → chars rest ≡ front
last_off text rest front d c whole utf8 is e =
    let tail = behind rest (encode_utf8 d) (subst IsUtf8 is whole) utf8 in
    let last : chars (encode_utf8 d) ≡ d ∷ [] = chars_past_char (encode_utf8 d) [] d tail (sym (append-nil (encode_utf8 d))) ∙ ap (λ (z : List ℕ). d ∷ z) chars-nil in
    same_front (chars rest) front d c (ap (λ (z : List ℕ). chars rest ++ z) (sym last) ∙ sym (chars-append rest (encode_utf8 d) utf8) ∙ ap chars (sym is) ∙ e)

-- an empty text ends in none
no_last : (text front : List ℕ) (c : ℕ) → length text ≡ 0 → chars text ≡ front ++ c ∷ [] → chars text ≡ front
no_last [] front c none e = absurd (omega (arith, ap length (sym chars-nil ∙ e), length-append front (c ∷ [])))
no_last (b ∷ bs) front c none e = absurd (omega arith)

-- what is left of a text after its last character, if it has one, was taken
pub left_over : {X : Type 0} (r : Option ℕ) (text rest front : List ℕ) (c : ℕ) → (X → rest ≡ text) → IsUtf8 text → IsUtf8 rest
    → MatchOption r ((length text ≡ 0) × X) (λ d. text ≡ rest ++ encode_utf8 d) → chars text ≡ front ++ c ∷ [] → chars rest ≡ front
left_over None text rest front c same whole utf8 taken e = ap chars (same taken.1) ∙ no_last text front c taken.0 e
left_over (Some d) text rest front c same whole utf8 taken e = last_off text rest front d c whole utf8 taken e
