-- Numerals as parts of addresses.
use Rattle.std.proofs.Common.{◌≡◌, ℕ, ◌≤◌, ◌<◌, ◌^◌, Bool, true, false, not, ◌&&◌, ◌==◌, nat_le, List, [], ◌∷◌, None, Some, chars, refl, sym, ap, ◌∙◌, arith}
use Rattle.std.proofs.Math.ListN.{get_or}
use Rattle.std.proofs.lemmas.Bool.{and_from, and_parts, eq-eqb, le-leb, leb-true}
use Rattle.std.proofs.lemmas.Bool.Decides.{nat_tests}
use Rattle.std.proofs.lemmas.Fmt.{digits_decimal, digits_value-decimal, first_decimal}
use Rattle.std.proofs.lemmas.Str.Parse.{FoldsDigits, IsDigitsTest, IsNumeralModel, numerals_by_fold}
use Rattle.std.specs.Char.{is_ascii, is_ascii_digit}
use Rattle.std.specs.Fmt.{decimal as printed}
use Rattle.std.specs.List.{list_all}
use Rattle.std.specs.Str.{IsAscii}
use Rattle.percent_encoding.specs.Percent.{percent_decode}
use Rattle.percent_encoding.proofs.PercentLemmas.{percent_decode-nil, percent_decode_not_percent}
use Rattle.xml_grammar.specs.Digits.{decimal_digits}
use Rattle.xml_grammar.specs.Rules.{AllPass, number_of_digits}
use Rattle.xml_tokens.specs.Tokens.{is_different_char}
use Rattle.xml_names.specs.Limits.{u64_max}
use Rattle.xcap_uri.specs.Escapes.{DecodesTo, has_complete_escapes}
use Rattle.xcap_uri.specs.Numerals.{begins_with_digit, numeral_of}
use Rattle.doc_names.proofs.Words.{word_letters}
use Rattle.xcap_uri.proofs.Parts.{word_stands}
use Rattle.client_theorem.proofs.Words.{stands_for_itself}

-- either case of a test
on_test : {P : Type 0} (b : Bool) → (b ≡ true → P) → (b ≡ false → P) → P
on_test true f g = f refl
on_test false f g = g refl

-- the octets of a numeral are digits
pub numeral_digits : (octets : List ℕ) (n : ℕ) → numeral_of octets ≡ Some n → list_all is_ascii_digit octets ≡ true
numeral_digits octets n is =
    let small = nat_le (number_of_digits decimal_digits 0 octets) u64_max in
    on_test (begins_with_digit octets && (list_all is_ascii_digit octets && small))
    (λ h. (and_parts (list_all is_ascii_digit octets) small (and_parts (begins_with_digit octets) (list_all is_ascii_digit octets && small) h).1).0)
    (λ h. let never : None ≡ Some n = rw h at is in absurd cc)

digit_is_other : (stop b : ℕ) → is_ascii_digit stop ≡ false → is_ascii_digit b ≡ true → is_different_char stop b ≡ true
digit_is_other stop b never is = by (b == stop) refl
  where
    by : (t : Bool) → (b == stop) ≡ t → not t ≡ true
    by true h = let same : b ≡ stop = grind (arith, nat_tests) in let no : true ≡ false = sym is ∙ ap is_ascii_digit same ∙ never in absurd cc
    by false h = refl

-- digits differ from a character that is no digit
pub digits_pass : (stop : ℕ) → is_ascii_digit stop ≡ false → (octets : List ℕ) → list_all is_ascii_digit octets ≡ true → AllPass (is_different_char stop) octets
digits_pass stop never [] is = tt
digits_pass stop never (b ∷ bs) is =
    let both = and_parts (is_ascii_digit b) (list_all is_ascii_digit bs) is in
    (digit_is_other stop b never both.0, digits_pass stop never bs both.1)

-- ---- octets without `%`

other : (b : ℕ) → is_different_char 37 b ≡ true → (b == 37) ≡ false
other b is = by (b == 37) is
  where
    by : (t : Bool) → not t ≡ true → t ≡ false
    by true h = sym h
    by false h = refl

skipped : (b : ℕ) (rest : List ℕ) → (b == 37) ≡ false → has_complete_escapes (b ∷ rest) ≡ has_complete_escapes rest
skipped b [] h = rw h refl
skipped b (c ∷ []) h = rw h refl
skipped b (c ∷ d ∷ rest) h = rw h refl

whole : (octets : List ℕ) → AllPass (is_different_char 37) octets → has_complete_escapes octets ≡ true
whole [] all = refl
whole (b ∷ bs) all = skipped b bs (other b all.0) ∙ whole bs all.1

undecoded : (octets : List ℕ) → AllPass (is_different_char 37) octets → percent_decode octets ≡ octets
undecoded [] all = percent_decode-nil
undecoded (b ∷ bs) all =
    percent_decode_not_percent b bs (λ same. let never : true ≡ false = sym (eq-eqb b 37 same) ∙ other b all.0 in absurd cc)
    ∙ ap (λ (l : List ℕ). b ∷ l) (undecoded bs all.1)

-- ---- the part of an address

digit_ascii : (b : ℕ) → is_ascii_digit b ≡ true → is_ascii b ≡ true
digit_ascii b is = grind (arith, nat_tests)

digits_ascii : (octets : List ℕ) → list_all is_ascii_digit octets ≡ true → list_all is_ascii octets ≡ true
digits_ascii [] is = refl
digits_ascii (b ∷ bs) is =
    let both = and_parts (is_ascii_digit b) (list_all is_ascii_digit bs) is in
    and_from (is_ascii b) (list_all is_ascii bs) (digit_ascii b both.0) (digits_ascii bs both.1)

-- the octets of a numeral are ASCII
pub numeral_ascii : (octets : List ℕ) (n : ℕ) → numeral_of octets ≡ Some n → IsAscii octets
numeral_ascii octets n is = word_letters octets (digits_ascii octets (numeral_digits octets n is))

-- a numeral, decoded, is itself
pub numeral_stands : (octets : List ℕ) (n : ℕ) → numeral_of octets ≡ Some n → DecodesTo octets (chars octets)
numeral_stands octets n is =
    let plain = digits_pass 37 refl octets (numeral_digits octets n is) in
    stands_for_itself octets (numeral_ascii octets n is) (word_stands octets (whole octets plain) (undecoded octets plain))

-- ---- numbers as they are printed

tests : IsDigitsTest (λ digits. list_all is_ascii_digit digits ≡ true)
tests = record {
  empty = refl;
  parts = λ c cs h. let both = and_parts (is_ascii_digit c) (list_all is_ascii_digit cs) h in (in_range c both.0, both.1);
  more = λ c cs low h. and_from (is_ascii_digit c) (list_all is_ascii_digit cs) (from_range c low) h;
}
  where
    in_range : (c : ℕ) → is_ascii_digit c ≡ true → (48 ≤ c) × (c ≤ 57)
    in_range c h = let both = and_parts (nat_le 48 c) (nat_le c 57) h in (leb-true 48 c both.0, leb-true c 57 both.1)

    from_range : (c : ℕ) → (48 ≤ c) × (c ≤ 57) → is_ascii_digit c ≡ true
    from_range c h = and_from (nat_le 48 c) (nat_le c 57) (le-leb 48 c h.0) (le-leb c 57 h.1)

folds : FoldsDigits (number_of_digits decimal_digits)
folds = record { empty = λ n. refl; more = λ n c cs low. refl }

own : IsNumeralModel (λ digits. list_all is_ascii_digit digits ≡ true) (number_of_digits decimal_digits 0)
own = numerals_by_fold (λ digits. list_all is_ascii_digit digits ≡ true) tests (number_of_digits decimal_digits) folds

begins : (digits : List ℕ) → list_all is_ascii_digit digits ≡ true → 48 < get_or digits 0 0 → begins_with_digit digits ≡ true
begins [] are some = absurd (omega (arith, some))
begins (c ∷ cs) are some = and_from (is_ascii_digit c) (nat_le 49 c) (and_parts (is_ascii_digit c) (list_all is_ascii_digit cs) are).0 (le-leb 49 c (omega (arith, some)))

-- a number from 1 to the greatest of 64 bits is printed as its numeral
pub printed_numeral : (n : ℕ) → 1 ≤ n → n ≤ u64_max → numeral_of (printed n) ≡ Some n
printed_numeral n some small =
    let low : n < 2 ^ 64 = omega (arith, small) in
    let digits = digits_decimal own n low in
    let value = digits_value-decimal own n low in
    rw (begins (printed n) digits (first_decimal n (omega (arith, some)) low), digits, value, le-leb n u64_max small) refl
