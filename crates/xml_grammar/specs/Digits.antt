-- Digits of numerals, as character references have them (XML 1.0, fifth edition, section 4.1).
use Rattle.std.specs.Prelude.{ℕ, ◌-◌, Bool, nat_le, if◌then◌else◌}
use Rattle.std.specs.Char.{is_ascii_digit, is_ascii_hexdigit}

-- a way to write numbers
pub record Digits : Type 0 where
  pub base : ℕ
  pub is_digit : ℕ → Bool
  pub value : ℕ → ℕ

-- the digits from `0` (48) on
abbrev pub decimal_digits : Digits
decimal_digits = record { base = 10; is_digit = is_ascii_digit; value = λ c. c - 48 }

-- the digits from `0` (48) to `9` (57), from `A` (65) to `F` (70), which are worth 55 less, and
-- from `a` (97) on, worth 87 less
abbrev pub hexadecimal_digits : Digits
hexadecimal_digits =
    record {
      base = 16;
      is_digit = is_ascii_hexdigit;
      value = λ c. if nat_le c 57 then c - 48 else if nat_le c 70 then c - 55 else c - 87;
    }
