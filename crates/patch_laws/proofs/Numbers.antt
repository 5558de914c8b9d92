-- Numbers are written in Chars.
use Rattle.std.proofs.Common.{◌≡◌, ℕ, zero, suc, ◌<◌, ◌/◌, ◌%◌, Bool, true, false, cond, ◌==◌, List, [], ◌∷◌, decimal, refl, arith}
use Rattle.std.proofs.lemmas.Bool.{agree_below, agree_below_at}
use Rattle.std.specs.Fmt.{digit_glyph, digits, digits_onto}
use Rattle.xml_names.specs.Characters.{has_only_chars, is_char}
use Rattle.patch_laws.proofs.Prefixes.{both}

glyphs : agree_below (λ d. is_char (digit_glyph false d)) (λ d. true) 10 ≡ true
glyphs = refl

glyph_char : (d : ℕ) → d < 10 → is_char (digit_glyph false d) ≡ true
glyph_char d low = agree_below_at (λ k. is_char (digit_glyph false k)) (λ k. true) 10 d glyphs low

digits_chars : (k n : ℕ) (rest : List ℕ) → has_only_chars rest ≡ true → has_only_chars (digits_onto k 10 false n rest) ≡ true
digits_chars zero n rest h = h
digits_chars (suc k) n rest h =
    let more : has_only_chars (digit_glyph false (n % 10) ∷ rest) ≡ true = both (is_char (digit_glyph false (n % 10))) (has_only_chars rest) (glyph_char (n % 10) (omega arith)) h in
    by (n / 10 == 0) more (digits_chars k (n / 10) (digit_glyph false (n % 10) ∷ rest) more)
  where
    by : (b : Bool) → has_only_chars (digit_glyph false (n % 10) ∷ rest) ≡ true → has_only_chars (digits_onto k 10 false (n / 10) (digit_glyph false (n % 10) ∷ rest)) ≡ true
        → has_only_chars (cond b (digit_glyph false (n % 10) ∷ rest) (digits_onto k 10 false (n / 10) (digit_glyph false (n % 10) ∷ rest))) ≡ true
    by true here behind = here
    by false here behind = behind

pub number_chars : (n : ℕ) → has_only_chars (decimal n) ≡ true
unfolding digits
number_chars n = digits_chars 64 n [] refl
