-- What a log holds. This is the project's own model.
use Rattle.std.specs.Prelude.{ℕ, ◌+◌, List, [], ◌∷◌, ◌++◌, length}

-- A snapshot in parts, the number of the first change after it, and the changes, which have the
-- numbers from that one on.
pub record Contents : Type 0 where
  pub parts : List (List ℕ)
  pub first : ℕ
  pub changes : List (List ℕ)

-- a log in which nothing was ever written
abbrev pub no_contents : Contents
no_contents = record { parts = []; first = 1; changes = [] }

-- a snapshot alone
abbrev pub snapshot_of : List (List ℕ) → ℕ → Contents
snapshot_of parts first = record { parts = parts; first = first; changes = [] }

-- the number that the next change gets
abbrev pub next_number : Contents → ℕ
next_number c = c.first + length c.changes

-- one part more
abbrev pub with_part : List ℕ → Contents → Contents
with_part part c = record c { parts = c.parts ++ part ∷ [] }

-- one change more
abbrev pub with_change : List ℕ → Contents → Contents
with_change change c = record c { changes = c.changes ++ change ∷ [] }
