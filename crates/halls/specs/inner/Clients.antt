-- What one call makes of the clients of a hall in memory.
use Rattle.std.specs.Prelude.{◌≡◌, ℕ, ◌<◌, ◌≤◌, List, [], ◌++◌, length, take, drop, true, Option}
use Rattle.std.specs.Prelude.{false, None, Some, Result, Ok, Err, IfOk, slice_index_or, slice_set}
use Rattle.halls.specs.declared.hall.ConnectionId.{ConnectionId}
use Rattle.halls.specs.declared.hall.Progress.{Progress}
use Rattle.halls.specs.declared.hall.Progress.TheVariants.{Moved, Blocked}
use Rattle.halls.specs.HallState.{HallState, connection_at}
use Rattle.halls.specs.MemoryHalls.{ClientState, new_client}
use Rattle.halls.specs.CallResults.{IsOpen, MayRead}

-- the client of this number
abbrev pub client_at : List ClientState → ℕ → ClientState
client_at clients n = slice_index_or clients n (new_client [])

-- the client connects, at this place
abbrev pub connected_client : ℕ → ClientState → ClientState
connected_client place client = record client { taken = []; place = place; closed = false }

-- the client after a read of its connection
abbrev pub client_after_read : {E : Type 0} → Result Progress E → ClientState → ClientState
client_after_read (Ok (Moved count)) client = record client { left = drop count client.left }
client_after_read (Ok Blocked) client = client
client_after_read (Err e) client = client

-- its connection was closed
abbrev pub closed_client : ClientState → ClientState
closed_client client = record client { closed = true }

-- the client after a write of this piece to its connection
abbrev pub client_after_write : {E : Type 0} → List ℕ → Result Progress E → ClientState
    → ClientState
client_after_write piece (Ok (Moved count)) client =
    record client { taken = client.taken ++ take count piece }
client_after_write piece (Ok Blocked) client = client
client_after_write piece (Err e) client = client

-- one call was made on the client of this number: nothing else changed
abbrev pub with_client : List ClientState → ℕ → (ClientState → ClientState) → List ClientState
with_client clients n change = slice_set clients n (change (client_at clients n))

-- One read of the client of this number, of which the first have connected: of another it fails.
pub record ReadsClient {E : Type 0} (begun : ℕ) (old new : List ClientState) (n : ℕ)
    (buf : List ℕ) (result : Result Progress E) : Type 0 where
  pub connected : IfOk result (λ _. n < begun)
  pub next : MayRead (Some (client_at old n).left) buf result
  pub changed : new ≡ with_client old n (client_after_read result)

-- One write to it.
pub record WritesClient {E : Type 0} (old new : List ClientState) (n : ℕ)
    (piece : List ℕ) (result : Result Progress E) : Type 0 where
  pub changed : new ≡ with_client old n (client_after_write piece result)

-- the connection of this number, if it is open; None where it is closed or hasn't begun
abbrev pub IsOpenOrNone : HallState → ℕ → Option ConnectionId → Type 0
IsOpenOrNone hall n (Some id) = IsOpen hall id
IsOpenOrNone hall n None = n < length hall.connections → (connection_at hall n).closed ≡ true

-- the connections from one number up to another are closed
abbrev pub AreClosed : HallState → ℕ → ℕ → Type 0
AreClosed hall from to = (n : ℕ) → from ≤ n → n < to → (connection_at hall n).closed ≡ true

-- an open connection, or none where all from this number on are closed
abbrev pub IsOpenFrom : HallState → ℕ → Option ConnectionId → Type 0
IsOpenFrom hall from (Some id) = IsOpen hall id
IsOpenFrom hall from None = AreClosed hall from (length hall.connections)
