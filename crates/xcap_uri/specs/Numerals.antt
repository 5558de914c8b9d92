-- Numerals, as etags and counts are written.
use Rattle.std.specs.Prelude.{ℕ, Bool, false, ◌&&◌, nat_le, List, [], ◌∷◌, Option, None, Some}
use Rattle.std.specs.Prelude.{if◌then◌else◌}
use Rattle.std.specs.List.{list_all}
use Rattle.std.specs.Char.{is_ascii_digit}
use Rattle.xml_names.specs.Limits.{u64_max}
use Rattle.xml_grammar.specs.Digits.{decimal_digits}
use Rattle.xml_grammar.specs.Rules.{number_of_digits}

-- the first octet is a digit from `1` (49) on
abbrev pub begins_with_digit : List ℕ → Bool
begins_with_digit [] = false
begins_with_digit (c ∷ cs) = is_ascii_digit c && nat_le 49 c

-- the number of a numeral from 1 to the greatest 64-bit number: only digits, without a leading
-- zero
abbrev pub numeral_of : List ℕ → Option ℕ
numeral_of octets =
    if begins_with_digit octets
    && (list_all is_ascii_digit octets && nat_le (number_of_digits decimal_digits 0 octets) u64_max)
    then Some (number_of_digits decimal_digits 0 octets)
    else None
