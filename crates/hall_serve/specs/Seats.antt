-- The connections that a server has open: a seat for each, at the connection's place. This is the
-- project's own.
use Rattle.std.specs.Prelude.{◌≡◌, ℕ, ◌+◌, ◌-◌, ◌<◌, Bool, false, if◌then◌else◌, List, [], ◌∷◌}
use Rattle.std.specs.Prelude.{length, Option, None, Some, slice_index_or}
use Rattle.halls.specs.declared.hall.ConnectionId.{ConnectionId}
use Rattle.halls.specs.CallResults.{IsOpen}
use Rattle.halls.specs.HallState.{HallState, connection_at}
use Rattle.http_feed.specs.Feeds.{FeedState}
use Rattle.http_wire.specs.declared.limits.TheConstants.{MAX_REQUESTS}

-- An open connection.
pub record SeatState : Type 0 where
  pub id : ConnectionId
  -- the bytes given and not used yet
  pub feed : FeedState
  -- the bytes of the last reply that aren't written yet
  pub pending : List ℕ
  -- the last reply ends the connection
  pub closing : Bool
  -- a read found the end
  pub ended : Bool

-- the seat at a place, if there is one
abbrev pub seat_at : List (Option SeatState) → ℕ → Option SeatState
seat_at seats k = slice_index_or seats k None

-- The connection of the seat at this place is open and can be served.
pub record IsSeatAt (hall : HallState) (k : ℕ) (seat : SeatState) : Type 0 where
  pub at_place : seat.id.place ≡ k
  pub is_open : IsOpen hall seat.id
  -- no read or write failed, and its time isn't up
  pub unbroken : (connection_at hall seat.id.number).broken ≡ false
  pub same_end : seat.ended ≡ (connection_at hall seat.id.number).ended
  pub unspent : seat.closing ≡ false → seat.feed.reader.spent ≡ false
  pub few_requests : seat.closing ≡ false → seat.feed.reader.requests < MAX_REQUESTS

-- the seat of a connection, which is at the connection's place
pub record HasSeat (hall : HallState) (seats : List (Option SeatState)) (n : ℕ) : Type 0 where
  pub seat : SeatState
  pub is_there : seat_at seats (connection_at hall n).place ≡ Some seat
  pub same_number : seat.id.number ≡ n

-- Each seat belongs to an open connection, and each open connection has one.
pub record MatchesSeats (hall : HallState) (seats : List (Option SeatState)) : Type 0 where
  pub seated : (k : ℕ) (seat : SeatState) → seat_at seats k ≡ Some seat → IsSeatAt hall k seat
  pub covered : (n : ℕ) → n < length hall.connections → (connection_at hall n).closed ≡ false
      → HasSeat hall seats n

-- how many more requests may come on the connection of this seat
abbrev pub requests_left_at : Option SeatState → ℕ
requests_left_at None = 0
requests_left_at (Some seat) =
    if seat.closing then 0 else MAX_REQUESTS - seat.feed.reader.requests

-- how many more requests may come on all open connections
abbrev pub requests_left : List (Option SeatState) → ℕ
requests_left [] = 0
requests_left (place ∷ places) = requests_left_at place + requests_left places
