-- The positional selector of a place. RFC 4825, section 6.3: a wildcard and a position for each
-- step.
use Rattle.std.specs.Prelude.{ℕ, suc, List, [], ◌∷◌, ◌++◌, codes, decimal}

-- what follows the root's `*`: `/*[i]` for each number, counted from 1
abbrev pub steps_text : List ℕ → List ℕ
steps_text [] = []
steps_text (n ∷ p) = codes "/*[" ++ (decimal (suc n) ++ (codes "]" ++ steps_text p))

abbrev pub path_text : List ℕ → List ℕ
path_text p = codes "*" ++ steps_text p
