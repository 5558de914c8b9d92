-- What one turn did for the connection of one seat.
use Rattle.std.specs.Prelude.{◌≡◌, ℕ, ◌+◌, ◌<◌, ◌≤◌, Bool, true, false, List, [], ◌++◌, take}
use Rattle.std.specs.Prelude.{drop, length, slice_set, Option, None, Some, Result, Ok, Err}
use Rattle.std.specs.Prelude.{option_to_list, if◌then◌else◌}
use Rattle.halls.specs.HallState.{ConnectionState, HallState, connection_at}
use Rattle.halls.specs.StateChanges.{with_close, with_read_bytes, hall_after_accept}
use Rattle.halls.specs.declared.hall.ConnectionId.{ConnectionId}
use Rattle.http_feed.specs.Feeds.{ReturnsItem, with_bytes}
use Rattle.http_wire.specs.declared.limits.TheConstants.{MAX_HELD_BYTES, MAX_REQUESTS}
use Rattle.http_wire.specs.declared.request.Request.{Request}
use Rattle.http_wire.specs.declared.request.Asked.{Asked}
use Rattle.http_wire.specs.ConnectionItems.{HasNoCompleteItem}
use Rattle.http_wire.specs.NextRequests.{RequestReaderState}
use Rattle.hall_serve.specs.declared.seat_turns.ItemTurn.{ItemTurn}
use Rattle.hall_serve.specs.declared.seat_turns.ItemTurn.TheVariants.{Answered, Open, End, NoMemory}
use Rattle.hall_serve.specs.declared.seat_turns.SeatTurn.{SeatTurn}
use Rattle.hall_serve.specs.declared.seat_turns.SeatTurn.TheVariants as seat_turn
use Rattle.hall_serve.specs.declared.turns.Turn.{Turn}
use Rattle.hall_serve.specs.declared.turns.Turn.TheVariants as turn
use Rattle.hall_serve.specs.Exchanges.{Exchange, IsExchange}
use Rattle.hall_serve.specs.Seats.{IsSeatAt, SeatState, seat_at}
use Rattle.hall_serve.specs.inner.NewSeats.{new_seat}
use Rattle.hall_serve.specs.ServedConnections.{BeginsWithItem}
use Rattle.hall_serve.specs.ServedHalls.{HallServer, TriesInOrder, tries}

-- the hall, with this connection in the place of the one with this number
abbrev pub set_connection : HallState → ℕ → ConnectionState → HallState
set_connection hall n connection =
    record hall { connections = slice_set hall.connections n connection }

-- The seat after a change: its reader, what is pending and whether a read found the end may be
-- others.
pub record IsSeatAfter (old : SeatState) (now_reader : RequestReaderState) (now_pending : List ℕ)
    (now_ended : Bool) (new : SeatState) : Type 0 where
  pub same_id : new.id ≡ old.id
  pub reader : new.feed.reader ≡ now_reader
  pub pending : new.pending ≡ now_pending
  pub same_closing : new.closing ≡ old.closing
  pub ended : new.ended ≡ now_ended

-- nothing changed but the memory of its feed
abbrev pub IsSameSeat : SeatState → SeatState → Type 0
IsSameSeat old new = IsSeatAfter old old.feed.reader old.pending old.ended new

-- What the next item of the bytes held is, or whether there is none yet: by the bytes, and whether
-- a read found their end.
abbrev pub IsItemOf : {E : Type 0} → Bool → RequestReaderState → Result (Option Asked) E
    → RequestReaderState → Type 0
IsItemOf ended old (Ok (Some asked)) new = ReturnsItem ended old asked new
IsItemOf ended old (Ok None) new = (ended ≡ false) × HasNoCompleteItem old.held × (new ≡ old)
IsItemOf ended old (Err _) new = new ≡ old

-- the connection, with these counts of reads and writes
abbrev pub with_tries : ℕ → ℕ → ConnectionState → ConnectionState
with_tries reads writes connection = record connection { reads = reads; writes = writes }

-- Why a connection was closed: it broke; or all of its replies were written, and the last one ends
-- it or a read found the end after the last item.
pub data IsToClose (seat : SeatState) (connection : ConnectionState) : Type 0 where
  broke : connection.broken ≡ true → IsToClose seat connection
  replied : seat.pending ≡ [] → seat.closing ≡ true → IsToClose seat connection
  found_end : seat.pending ≡ [] → seat.closing ≡ false → connection.ended ≡ true
      → seat.feed.reader.held ≡ [] → IsToClose seat connection

-- What passed over the connection of a seat, without the machine: nothing; bytes that were read;
-- bytes that were written; or it was closed, and there is no seat.
pub data PassesBytes (old : SeatState) (new : Option SeatState)
    (connection connection' : ConnectionState) : Type 0 where
  nothing : (reads writes : ℕ) (seat : SeatState) → new ≡ Some seat → IsSameSeat old seat
      → connection' ≡ with_tries reads writes connection
      → PassesBytes old new connection connection'
  some_read : (count : ℕ) (buf : List ℕ) (reads writes : ℕ) (seat : SeatState) → new ≡ Some seat
      → old.ended ≡ false
      → IsSeatAfter old (with_bytes old.feed.reader (take count buf)) old.pending
      connection'.ended seat
      → connection' ≡ with_read_bytes count buf (with_tries reads writes connection)
      → PassesBytes old new connection connection'
  some_written : (count reads writes : ℕ) (seat : SeatState) → new ≡ Some seat
      → IsSeatAfter old old.feed.reader (drop count old.pending) old.ended seat
      → connection' ≡ record (with_tries reads writes connection) {
        taken = connection.taken ++ take count old.pending;
      }
      → PassesBytes old new connection connection'
  closed : (reads writes : ℕ) (is_broken : Bool) → new ≡ None
      → IsToClose old (record connection { broken = is_broken })
      → connection' ≡ with_close (record (with_tries reads writes connection) {
        broken = is_broken;
      })
      → PassesBytes old new connection connection'

-- The same in a hall, where nothing else changes. The connection was reported ready once or never;
-- where it was, a read or a write was tried or it was closed, or there was a failure.
pub record PassesInHall (ready failures : ℕ) (old : SeatState) (new : Option SeatState)
    (hall hall' : HallState) : Type 0 where
  pub connection : ConnectionState
  pub passes : PassesBytes old new (connection_at hall old.id.number) connection
  pub only_that : hall' ≡ set_connection hall old.id.number connection
  pub same_reports : connection.reports ≡ (connection_at hall old.id.number).reports
  pub tried : ready + tries (connection_at hall old.id.number) ≤ tries connection + failures
  pub in_order : TriesInOrder old ready (connection_at hall old.id.number) connection

-- the seat, where its connection is still open
abbrev pub seat_after : SeatTurn → SeatState → Option SeatState
seat_after seat_turn.Went seat = Some seat
seat_after seat_turn.Closed seat = None
seat_after seat_turn.NoMemory seat = Some seat

-- whether nothing was done when out of memory, as a number
abbrev pub failures_in : SeatTurn → ℕ
failures_in seat_turn.Went = 0
failures_in seat_turn.Closed = 0
failures_in seat_turn.NoMemory = 1

-- the same for a place
abbrev pub failures_unless : Bool → ℕ
failures_unless went = if went then 0 else 1

-- what a seat is served with
pub record SeatServer (M W : Type 0) : Type 0 where
  pub machine : M
  pub seat : SeatState
  pub watchers : W

-- what a place is served with, where there may be no seat
pub record PlaceServer (M W : Type 0) : Type 0 where
  pub machine : M
  pub seat : Option SeatState
  pub watchers : W

module _ {M E W : Type 0} (Step : M → Request → List ℕ → M → Option E → Type 0)
    (Keeps : List E → W → W → Type 0) where
  -- The first item of the bytes held was answered, the watchers were notified of its edit, and its
  -- reply is pending.
  pub record AnswersFirst (old new : SeatServer M W) : Type 0 where
    pub exchange : Exchange E
    pub rest : List ℕ
    pub on_connection : exchange.connection ≡ old.seat.id.number
    pub goes_on : old.seat.closing ≡ false
    pub none_pending : old.seat.pending ≡ []
    pub first : BeginsWithItem old.seat.feed.reader.requests old.seat.feed.reader.held
        old.seat.ended exchange.item rest
    pub is_exchange : IsExchange Step old.machine exchange new.machine
    pub same_id : new.seat.id ≡ old.seat.id
    pub same_end : new.seat.ended ≡ old.seat.ended
    pub pending : new.seat.pending ≡ exchange.reply
    pub closing : new.seat.closing ≡ exchange.closes
    pub reader : new.seat.closing ≡ false → new.seat.feed.reader
        ≡ record {
          held = rest;
          requests = old.seat.feed.reader.requests + 1;
          spent = false;
        }
    pub few_requests : new.seat.closing ≡ false → old.seat.feed.reader.requests + 1 < MAX_REQUESTS
    pub kept : Keeps (option_to_list exchange.edit) old.watchers new.watchers

  -- nothing was answered
  pub record AnswersNothing (old new : SeatServer M W) : Type 0 where
    pub same_seat : IsSameSeat old.seat new.seat
    pub same_machine : new.machine ≡ old.machine
    pub kept : Keeps [] old.watchers new.watchers

  -- What came of the bytes held: their first item was answered; or none is complete, and more bytes
  -- may be given; or there are none, and a read found the end; or want of memory.
  abbrev pub AnswersItemTurn : ItemTurn → SeatServer M W → SeatServer M W → Type 0
  AnswersItemTurn Answered old new = AnswersFirst old new
  AnswersItemTurn Open old new =
      AnswersNothing old new × (old.seat.ended ≡ false)
      × HasNoCompleteItem old.seat.feed.reader.held
      × (new.seat.feed.buffer.filled < MAX_HELD_BYTES)
  AnswersItemTurn End old new =
      (new.machine ≡ old.machine) × Keeps [] old.watchers new.watchers
      × (new.seat.id ≡ old.seat.id)
      × (old.seat.ended ≡ true) × (old.seat.feed.reader.held ≡ [])
  AnswersItemTurn NoMemory old new = AnswersNothing old new

  -- What one turn did for the connection of a seat.
  pub data ServesSeat (ready failures : ℕ) (old : SeatServer M W) (new : Option SeatState)
      (machine : M) (watchers : W) (hall hall' : HallState) : Type 0 where
    passes : PassesInHall ready failures old.seat new hall hall' → machine ≡ old.machine
        → Keeps [] old.watchers watchers
        → ServesSeat ready failures old new machine watchers hall hall'
    answers : (seat : SeatState) → new ≡ Some seat
        → AnswersFirst old (record { machine = machine; seat = seat; watchers = watchers })
        → hall' ≡ hall → ServesSeat ready failures old new machine watchers hall hall'

  -- the same at a place, where there is a seat
  pub record ServesPlace (ready failures : ℕ) (old new : PlaceServer M W) (hall hall' : HallState)
      : Type 0 where
    pub seat : SeatState
    pub is_there : old.seat ≡ Some seat
    pub serves : ServesSeat ready failures
        (record { machine = old.machine; seat = seat; watchers = old.watchers })
        new.seat new.machine new.watchers hall hall'

  -- the same among all seats, of which no other changes
  pub record ServesAt (ready failures k : ℕ) (old new : HallServer M W) : Type 0 where
    pub left : Option SeatState
    pub only_there : new.seats ≡ slice_set old.seats k left
    pub serves : ServesPlace ready failures
        (record { machine = old.machine; seat = seat_at old.seats k; watchers = old.watchers })
        (record { machine = new.machine; seat = left; watchers = new.watchers })
        old.hall new.hall

-- the same, by what came of the turn
abbrev pub ServesReady : {M E W : Type 0} → (M → Request → List ℕ → M → Option E → Type 0)
    → (List E → W → W → Type 0) → Turn → ℕ → HallServer M W → HallServer M W → Type 0
ServesReady Step Keeps turn.Went k old new = ServesAt Step Keeps 1 0 k old new
ServesReady Step Keeps turn.NoMemory k old new = ServesAt Step Keeps 1 1 k old new
ServesReady Step Keeps turn.Began k old new = ⊥
ServesReady Step Keeps turn.Over k old new = ⊥
ServesReady Step Keeps turn.HallFailed k old new = ⊥

-- there is the seat of an open connection at the place
abbrev pub IsTaken : HallState → Option SeatState → Type 0
IsTaken hall place =
    (seat : SeatState) × (place ≡ Some seat) × ((k : ℕ) × IsSeatAt hall k seat)

-- A connection began and has a seat at the place; or none did, or an accept failed.
abbrev pub SeatsNext : {E : Type 0} → ℕ → List (Option SeatState) → List (Option SeatState)
    → HallState → HallState → Result Bool E → Type 0
SeatsNext {E} place old new hall hall' (Ok true) =
    (id : ConnectionId) × (id.place ≡ place) × (id.number ≡ length hall.connections)
    × (new ≡ slice_set old place (Some (new_seat id)))
    × (hall' ≡ hall_after_accept {E = E} place (Ok (Some id)) hall)
SeatsNext {E} place old new hall hall' (Ok false) =
    (new ≡ old) × (hall' ≡ hall_after_accept {E = E} place (Ok None) hall)
SeatsNext place old new hall hall' (Err e) =
    (new ≡ old) × (hall' ≡ hall_after_accept place (Err e) hall)

-- the same where there may be no place
abbrev pub SeatsNextIn : Option ℕ → List (Option SeatState) → List (Option SeatState) → HallState
    → HallState → Turn → Type 0
SeatsNextIn free old new hall hall' turn.Began =
    (place : ℕ) × (free ≡ Some place)
    × SeatsNext {E = Unit {0}} place old new hall hall' (Ok true)
SeatsNextIn free old new hall hall' turn.Went =
    (new ≡ old) × (hall' ≡ record hall { accepts = hall.accepts + 1 })
SeatsNextIn free old new hall hall' turn.HallFailed =
    (new ≡ old)
    × (hall' ≡ record hall { accepts = hall.accepts + 1; faults = hall.faults + 1 })
SeatsNextIn free old new hall hall' turn.NoMemory = ⊥
SeatsNextIn free old new hall hall' turn.Over = ⊥
