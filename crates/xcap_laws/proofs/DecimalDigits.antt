-- Numbers in decimal digits, of any size: they are digits, and at most 64; and those of three.
use Rattle.std.proofs.Common.{◌≡◌, ℕ, zero, suc, ◌+◌, ◌<◌, ◌≤◌, ◌%◌, ◌/◌, Bool, true, false, ◌==◌, List, [], ◌∷◌, length, refl, ap, ◌∙◌, arith}
use Rattle.std.specs.Prelude.{decimal, if◌then◌else◌}
use Rattle.std.specs.List.{list_all}
use Rattle.std.specs.Char.{is_ascii_digit}
use Rattle.std.specs.Str.{IsAscii}
use Rattle.std.proofs.lemmas.Bool.{and_parts, and_from, lt-ltb}
use Rattle.std.proofs.lemmas.Bool.Decides.{nat_tests}
use Rattle.std.proofs.lemmas.Fmt.{decimal_step, decimal_digit}
use Rattle.std.proofs.lemmas.Str.Ascii.{IsAscii-nil, IsAscii-cons}
use Rattle.std.specs.Fmt.{digit_glyph, digits, digits_onto}

digit : (d : ℕ) → d < 10 → is_ascii_digit (48 + d) ≡ true
digit d low = grind (arith, nat_tests)

glyph : (d : ℕ) → d < 10 → is_ascii_digit (digit_glyph false d) ≡ true
glyph d low = rw (lt-ltb d 10 low) (digit d low)

-- either of two lists, by a test
either_list : (P : List ℕ → Type 0) (b : Bool) (xs ys : List ℕ) → P xs → P ys → P (if b then xs else ys)
either_list P true xs ys one two = one
either_list P false xs ys one two = two

onto : (k n : ℕ) (more : List ℕ) → list_all is_ascii_digit more ≡ true → list_all is_ascii_digit (digits_onto k 10 false n more) ≡ true
onto zero n more all = all
onto (suc k) n more all =
    let next : list_all is_ascii_digit (digit_glyph false (n % 10) ∷ more) ≡ true = and_from _ _ (glyph (n % 10) (omega arith)) all in
    either_list (λ l. list_all is_ascii_digit l ≡ true) (n / 10 == 0) (digit_glyph false (n % 10) ∷ more) (digits_onto k 10 false (n / 10) (digit_glyph false (n % 10) ∷ more)) next (onto k (n / 10) (digit_glyph false (n % 10) ∷ more) next)

pub all_digits : (n : ℕ) → list_all is_ascii_digit (decimal n) ≡ true
unfolding digits
all_digits n = onto 64 n [] refl

onto_short : (k n : ℕ) (more : List ℕ) → length (digits_onto k 10 false n more) ≤ k + length more
onto_short zero n more = omega arith
onto_short (suc k) n more =
    let glyphs : List ℕ = digit_glyph false (n % 10) ∷ more in
    let rest = onto_short k (n / 10) glyphs in
    either_list (λ l. length l ≤ suc k + length more) (n / 10 == 0) glyphs (digits_onto k 10 false (n / 10) glyphs) (omega arith) (omega (arith, rest))

pub few_digits : (n : ℕ) → length (decimal n) ≤ 64
unfolding digits
few_digits n = onto_short 64 n []

pub three_digits : (n : ℕ) → 100 ≤ n → n < 1000 → length (decimal n) ≡ 3
three_digits n low high = rw (decimal_step n (omega arith) (omega arith), decimal_step (n / 10) (omega arith) (omega arith), decimal_digit (n / 10 / 10) (omega arith)) refl

small : (b : ℕ) → is_ascii_digit b ≡ true → b < 128
small b is = grind (arith, nat_tests)

pub ascii_digits : (ds : List ℕ) → list_all is_ascii_digit ds ≡ true → IsAscii ds
ascii_digits [] all = IsAscii-nil
ascii_digits (d ∷ ds) all =
    let parts = and_parts (is_ascii_digit d) (list_all is_ascii_digit ds) all in
    IsAscii-cons d ds (small d parts.0) (ascii_digits ds parts.1)
