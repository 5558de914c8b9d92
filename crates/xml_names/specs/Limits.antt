-- The limit of numbers.
use Rattle.std.specs.Prelude.{ℕ}

-- the greatest number of 64 bits
abbrev pub u64_max : ℕ
u64_max = 18446744073709551615
