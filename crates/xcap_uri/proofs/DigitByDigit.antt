-- Numerals, digit by digit.
use Rattle.std.proofs.Common.{◌≡◌, ℕ, ◌+◌, ◌-◌, ◌*◌, ◌≤◌, ◌<◌, Bool, cond, true, false, ◌&&◌, nat_le, List, [], ◌∷◌, Option, None, Some, refl, ◌∙◌, sym, arith}
use Rattle.std.proofs.lemmas.Bool.{leb-true, leb-false, le-leb, lt-leb}
use Rattle.std.specs.List.{list_all}
use Rattle.std.specs.Char.{is_ascii_digit as is_digit}
use Rattle.xml_grammar.specs.Digits.{decimal_digits}
use Rattle.xml_grammar.specs.Rules.{number_of_digits}
use Rattle.xcap_uri.specs.Numerals.{begins_with_digit, numeral_of}
use Rattle.xcap_uri.specs.inner.Numerals.{number_after}

-- the greatest number of 64 bits
abbrev top : ℕ
top = 18446744073709551615

abbrev whole : ℕ → List ℕ → Option ℕ
whole n cs = cond (list_all is_digit cs && nat_le (number_of_digits decimal_digits n cs) top) (Some (number_of_digits decimal_digits n cs)) None

-- a number never falls as digits are added
grows : (n : ℕ) (cs : List ℕ) → n ≤ number_of_digits decimal_digits n cs
grows n [] = omega arith
grows n (c ∷ cs) = let k = grows (n * 10 + (c - 48)) cs in omega arith

-- beyond the greatest number there is none
too_great : (t : Bool) (m : ℕ) → top < m → cond (t && nat_le m top) (Some m) None ≡ None
too_great true m h = rw (lt-leb m top h) refl
too_great false m h = refl

-- one digit more, where it is one and where the number stays small
with_digit : (n c : ℕ) (cs : List ℕ) (digit small : Bool) → is_digit c ≡ digit → nat_le (n * 10 + (c - 48)) top ≡ small → (n * 10 + (c - 48) ≤ top → number_after (n * 10 + (c - 48)) cs ≡ whole (n * 10 + (c - 48)) cs) → number_after n (c ∷ cs) ≡ whole n (c ∷ cs)
with_digit n c cs false small d s more = rw d refl
with_digit n c cs true true d s more = rw (d, s) (more (leb-true (n * 10 + (c - 48)) top s))
with_digit n c cs true false d s more =
    let beyond = leb-false (n * 10 + (c - 48)) top s in
    rw (d, s) (sym (too_great (list_all is_digit cs) (number_of_digits decimal_digits (n * 10 + (c - 48)) cs) (omega (arith, beyond, grows (n * 10 + (c - 48)) cs))))

value_is : (n : ℕ) (cs : List ℕ) → n ≤ top → number_after n cs ≡ whole n cs
value_is n [] small = rw (le-leb n top small) refl
value_is n (c ∷ cs) small = with_digit n c cs (is_digit c) (nat_le (n * 10 + (c - 48)) top) refl refl (λ fits. value_is (n * 10 + (c - 48)) cs fits)

-- the number of a numeral
pub numeral_is : (octets : List ℕ) → begins_with_digit octets ≡ true → number_after 0 octets ≡ numeral_of octets
numeral_is octets begins = value_is 0 octets (omega arith) ∙ rw begins refl
