-- Numerals computed digit by digit.
use Rattle.std.specs.Prelude.{ℕ, ◌+◌, ◌-◌, ◌*◌, ◌&&◌, nat_le, List, [], ◌∷◌, Option, None, Some}
use Rattle.std.specs.Prelude.{if◌then◌else◌}
use Rattle.std.specs.Char.{is_ascii_digit}
use Rattle.xml_names.specs.Limits.{u64_max}

-- a numeral computed digit by digit, with `0` (48) allowed, after digits of value n
abbrev pub number_after : ℕ → List ℕ → Option ℕ
number_after n [] = Some n
number_after n (c ∷ cs) =
    if is_ascii_digit c && nat_le (n * 10 + (c - 48)) u64_max
    then number_after (n * 10 + (c - 48)) cs
    else None
