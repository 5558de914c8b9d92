-- What the results of calls on a hall may be. This is the project's own model.
use Rattle.std.specs.Prelude.{◌≡◌, ℕ, ◌<◌, ◌≤◌, List, [], length, take, Bool, true, false, ⊤}
use Rattle.std.specs.Prelude.{Option, None, Some, IfSome, Result, Ok, Err}
use Rattle.halls.specs.declared.hall.Event.{Event}
use Rattle.halls.specs.declared.hall.Event.TheVariants.{Knock, Ready, Late, Quiet, Over}
use Rattle.halls.specs.declared.hall.ConnectionId.{ConnectionId}
use Rattle.halls.specs.declared.hall.Progress.{Progress}
use Rattle.halls.specs.declared.hall.Progress.TheVariants.{Moved, Blocked}
use Rattle.halls.specs.HallState.{AreAllClosed, HallState, connection_at}

-- The id names a connection that began, at its place, and that isn't closed.
pub record IsOpen (hall : HallState) (id : ConnectionId) : Type 0 where
  pub begun : id.number < length hall.connections
  pub at_place : (connection_at hall id.number).place ≡ id.place
  pub not_closed : (connection_at hall id.number).closed ≡ false

-- The hall shows that no connection is to come, and each one is closed: a hall that doesn't show
-- what is to come is never over.
pub record IsOver (hall : HallState) : Type 0 where
  pub none_to_come : hall.to_come ≡ Some []
  pub all_closed : AreAllClosed hall

-- A connection that a wait reports is open; a knock comes only where more are taken, and `Over`
-- only where the hall is over.
abbrev pub MayReport : {E : Type 0} → HallState → Bool → Result Event E → Type 0
MayReport hall takes_more (Ok Knock) = takes_more ≡ true
MayReport hall takes_more (Ok (Ready id)) = IsOpen hall id
MayReport hall takes_more (Ok (Late id)) = IsOpen hall id
MayReport hall takes_more (Ok Quiet) = ⊤
MayReport hall takes_more (Ok Over) = IsOver hall
MayReport hall takes_more (Err e) = ⊤

-- A connection that begins has the place that was asked for and the next number. None begins where
-- the hall shows that none is to come.
abbrev pub MayAccept : {E : Type 0} → ℕ → HallState → Result (Option ConnectionId) E → Type 0
MayAccept place hall (Ok (Some id)) =
    (id.place ≡ place) × (id.number ≡ length hall.connections)
    × IfSome hall.to_come (λ texts. 0 < length texts)
MayAccept place hall (Ok None) = ⊤
MayAccept place hall (Err e) = ⊤

-- the bytes are the next ones left, where those are shown, and none only at the end
abbrev pub AreNextBytes : Option (List ℕ) → ℕ → List ℕ → Type 0
AreNextBytes left count buf =
    IfSome left (λ bytes. (take count buf ≡ take count bytes) × (count ≡ 0 → bytes ≡ []))

-- A read gives the next bytes, at most as many as the buffer has room for.
abbrev pub MayRead : {E : Type 0} → Option (List ℕ) → List ℕ → Result Progress E → Type 0
MayRead left buf (Ok (Moved count)) = (count ≤ length buf) × AreNextBytes left count buf
MayRead left buf (Ok Blocked) = ⊤
MayRead left buf (Err e) = ⊤

-- a write that moves bytes hands over at least one, and at most all
abbrev pub MayWrite : {E : Type 0} → List ℕ → Result Progress E → Type 0
MayWrite piece (Ok (Moved count)) = (0 < count) × (count ≤ length piece)
MayWrite piece (Ok Blocked) = ⊤
MayWrite piece (Err e) = ⊤
