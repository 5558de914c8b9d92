-- The places of a hall, each free or with an open connection. This is the project's own.
use Rattle.std.specs.Prelude.{◌≡◌, ℕ, ◌↔◌, List, length, Bool, true, Option, None, Some}
use Rattle.std.specs.Prelude.{slice_index_or, Result, Ok, Err, ⊤}
use Rattle.halls.specs.declared.hall.ConnectionId.{ConnectionId}
use Rattle.halls.specs.declared.hall.Event.{Event}
use Rattle.halls.specs.declared.hall.Event.TheVariants.{Knock, Ready, Late, Quiet, Over}
use Rattle.halls.specs.HallState.{HallState, connection_at}
use Rattle.halls.specs.CallResults.{IsOpen}

-- the number of the connection at a place; None where the place is free
abbrev pub number_at : List (Option ℕ) → ℕ → Option ℕ
number_at numbers place = slice_index_or numbers place None

-- the connection of this number, at this place
abbrev pub id_at : ℕ → ℕ → ConnectionId
id_at place number = record { place = place; number = number }

-- the connection that is at its place, if there is one
abbrev pub IsAtItsPlace : List (Option ℕ) → ConnectionId → Type 0
IsAtItsPlace numbers id = number_at numbers id.place ≡ Some id.number

-- Exactly the open connections are at their places.
abbrev pub HoldsOpenConnections : List (Option ℕ) → HallState → Type 0
HoldsOpenConnections numbers hall =
    (place number : ℕ) → (number_at numbers place ≡ Some number) ↔ IsOpen hall (id_at place number)

-- Each place is free.
abbrev pub AreFreePlaces : {A : Type 0} → List (Option A) → Type 0
AreFreePlaces places = (place : ℕ) → slice_index_or places place None ≡ None

-- What holds between two calls: how many connections began, those at their places, and that the
-- hall shows nothing of the bytes that its connections will give.
pub record HoldsBetweenCalls (numbers : List (Option ℕ)) (begun : ℕ) (hall : HallState) : Type 0
  where
    pub counted : begun ≡ length hall.connections
    pub held : HoldsOpenConnections numbers hall
    pub hidden : (n : ℕ) → (connection_at hall n).left ≡ None
    pub hidden_to_come : hall.to_come ≡ None

-- A connection that an event names is at its place, a knock comes only where more are taken, and
-- the hall is never over.
abbrev pub MayNameConnection : {E : Type 0} → List (Option ℕ) → Bool → Result Event E → Type 0
MayNameConnection numbers takes_more (Ok Knock) = takes_more ≡ true
MayNameConnection numbers takes_more (Ok (Ready id)) = IsAtItsPlace numbers id
MayNameConnection numbers takes_more (Ok (Late id)) = IsAtItsPlace numbers id
MayNameConnection numbers takes_more (Ok Quiet) = ⊤
MayNameConnection numbers takes_more (Ok Over) = ⊥
MayNameConnection numbers takes_more (Err e) = ⊤
