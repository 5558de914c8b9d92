-- Classes of bytes: a table that was compared with a test at each byte.
use Rattle.std.proofs.Common.{◌≡◌, ℕ, ◌<◌, Bool, true, not, nat_eq, bit_and, get_or, List}
use Rattle.std.proofs.lemmas.Bool.{agree_below, agree_below_at}

abbrev pub has_mark : List ℕ → ℕ → ℕ → Bool
has_mark table mark b = not (nat_eq (bit_and (get_or table b 0) mark) 0)

pub marked : (table : List ℕ) (mark : ℕ) (test : ℕ → Bool) (b : ℕ) → b < 256 → agree_below (has_mark table mark) test 256 ≡ true → has_mark table mark b ≡ test b
marked table mark test b low same = agree_below_at (has_mark table mark) test 256 b same low
