-- What contracts see of a hall: what has passed over each connection, and how often each call was
-- made. This is the project's own model of many connections at once; at run time nothing of it
-- exists but what a hall in memory holds.
use Rattle.std.specs.Prelude.{◌≡◌, ℕ, ◌+◌, ◌<◌, List, [], length, Bool, true, false, Option, None}
use Rattle.std.specs.Prelude.{slice_index_or, slice_set}

-- What has passed over one connection, and what was tried on it.
pub record ConnectionState : Type 0 where
  -- the place that it was accepted for
  pub place : ℕ
  -- the bytes that reads gave, and whether the last read that moved any found the end
  pub given : List ℕ
  pub ended : Bool
  -- the bytes that reads will give from here on, where the hall shows them
  pub left : Option (List ℕ)
  -- the bytes that writes handed over
  pub taken : List ℕ
  -- whether a read or a write failed, or the connection's time was up
  pub broken : Bool
  pub closed : Bool
  -- how often a wait reported it ready
  pub reports : ℕ
  -- how often a read and a write were tried, also where no byte could pass or they failed
  pub reads : ℕ
  pub writes : ℕ

-- A hall at one moment.
pub record HallState : Type 0 where
  -- the connections that were accepted, in order; a connection's number is its place in this list
  pub connections : List ConnectionState
  -- the bytes that each connection still to come will give, where the hall shows them
  pub to_come : Option (List (List ℕ))
  -- the address of the last `listen` that returned `Ok`
  pub listening : Option (List ℕ)
  -- how often `wait` was called, how often of these where more connections were taken, and how
  -- often it reported that a connection can be accepted
  pub waits : ℕ
  pub open_waits : ℕ
  pub knocks : ℕ
  -- how often `accept` was called
  pub accepts : ℕ
  -- how often `listen`, `wait` and `accept` have failed
  pub faults : ℕ

-- a connection over which nothing has passed, at this place, with these bytes left to read
abbrev pub new_connection : ℕ → Option (List ℕ) → ConnectionState
new_connection place left =
    record {
      place = place;
      given = [];
      ended = false;
      left = left;
      taken = [];
      broken = false;
      closed = false;
      reports = 0;
      reads = 0;
      writes = 0;
    }

-- a hall that neither listens nor shows what is to come, over which nothing has passed
abbrev pub new_hall : HallState
new_hall =
    record {
      connections = [];
      to_come = None;
      listening = None;
      waits = 0;
      open_waits = 0;
      knocks = 0;
      accepts = 0;
      faults = 0;
    }

-- the connection of this number; where there is none, one over which nothing has passed
abbrev pub connection_at : HallState → ℕ → ConnectionState
connection_at hall n = slice_index_or hall.connections n (new_connection 0 None)

-- all connections were closed
abbrev pub AreAllClosed : HallState → Type 0
AreAllClosed hall =
    (n : ℕ) → n < length hall.connections → (connection_at hall n).closed ≡ true

-- the hall, with the connection of this number changed; unchanged where there is none
abbrev pub with_connection : HallState → ℕ → (ConnectionState → ConnectionState) → HallState
with_connection hall n change =
    record hall { connections = slice_set hall.connections n (change (connection_at hall n)) }

-- the hall after one more fault
abbrev pub with_fault : HallState → HallState
with_fault hall = record hall { faults = hall.faults + 1 }
