-- What has passed over a stream since it was made, as its calls gave and took it. This is the
-- project's own model; at run time nothing of it exists.
use Rattle.std.specs.Prelude.{ℕ, List, [], ◌∷◌, ◌++◌, ◌==◌, Bool, true, false, length}

-- What passed over one connection.
pub record Traffic : Type 0 where
  -- the bytes that reads gave
  pub given : List ℕ
  -- whether the last read that didn't fail found the end of the input
  pub ended : Bool
  -- the bytes that writes handed over
  pub taken : List ℕ

-- no bytes passed, and no end was found
abbrev pub no_traffic : Traffic
no_traffic = record { given = []; ended = false; taken = [] }

-- all connections so far, of which the present one, if any, had this traffic
abbrev pub all_traffic : List Traffic → Bool → Traffic → List Traffic
all_traffic earlier true now = earlier ++ now ∷ []
all_traffic earlier false now = earlier

-- The connections of a stream: what passed over each that ended, whether one is present, and what
-- passed since the last began. A stream without connections has its traffic in the last field.
pub record ConnectionHistory : Type 0 where
  pub earlier : List Traffic
  pub is_present : Bool
  pub now : Traffic

-- the history of a new stream
abbrev pub no_history : ConnectionHistory
no_history = record { earlier = []; is_present = false; now = no_traffic }

-- a read gave these bytes; no bytes mean the end
abbrev pub with_read : ConnectionHistory → List ℕ → ConnectionHistory
with_read h bytes =
    record h { now = record h.now { given = h.now.given ++ bytes; ended = length bytes == 0 } }

-- a write handed over these bytes
abbrev pub with_write : ConnectionHistory → List ℕ → ConnectionHistory
with_write h bytes = record h { now = record h.now { taken = h.now.taken ++ bytes } }

-- the present connection ended, if there was one
abbrev pub with_connection_end : ConnectionHistory → ConnectionHistory
with_connection_end h =
    record {
      earlier = all_traffic h.earlier h.is_present h.now;
      is_present = false;
      now = no_traffic;
    }

-- another connection began, after those that ended
abbrev pub with_next_connection : ConnectionHistory → ConnectionHistory
with_next_connection h = record h { is_present = true; now = no_traffic }
