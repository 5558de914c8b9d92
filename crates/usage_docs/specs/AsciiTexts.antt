-- ASCII words, which have one byte for each character.
use Rattle.std.specs.Prelude.{ℕ, Bool, List, nat_lt}
use Rattle.std.specs.List.{list_all}

abbrev pub is_ascii : List ℕ → Bool
is_ascii bs = list_all (λ b. nat_lt b 128) bs
