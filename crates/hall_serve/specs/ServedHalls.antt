-- Many connections, served by one machine: what is true between two turns, and what turns do. RFC
-- 9112, sections 9.3 and 9.6.
use Rattle.std.specs.Prelude.{◌≡◌, ℕ, zero, suc, ◌+◌, ◌-◌, ◌<◌, ◌≤◌, ◌⊎◌, ◌↔◌, ◌&&◌, Bool, false}
use Rattle.std.specs.Prelude.{true, if◌then◌else◌, List, [], ◌++◌, length, Option, Some, is_none}
use Rattle.std.specs.List.{list_any}
use Rattle.halls.specs.CallResults.{IsOver}
use Rattle.halls.specs.HallState.{AreAllClosed, HallState, ConnectionState, connection_at}
use Rattle.http_wire.specs.ConnectionItems.{HasNoCompleteItem}
use Rattle.http_wire.specs.declared.request.Request.{Request}
use Rattle.hall_serve.specs.declared.serve.HallStop.{HallStop}
use Rattle.hall_serve.specs.declared.serve.HallStop.TheVariants.{Count, Over, HallFailed, Turns}
use Rattle.hall_serve.specs.declared.turns.Turn.{Turn}
use Rattle.hall_serve.specs.declared.turns.Turn.TheVariants as turn
use Rattle.hall_serve.specs.Exchanges.{Exchange, AreExchanges, edits, exchanges_on, last_closes}
use Rattle.hall_serve.specs.Exchanges.{replies}
use Rattle.hall_serve.specs.Seats.{MatchesSeats, SeatState, seat_at}
use Rattle.hall_serve.specs.ServedConnections.{BeginsWithItems, IsServed}
use Rattle.hall_serve.specs.ServedInTurn.{AreInTurn}

module _ {E : Type 0} where
  -- The seat holds what wasn't used of the bytes given on its connection, and what wasn't written
  -- of the replies.
  pub record HoldsRest (seat : SeatState) (connection : ConnectionState)
      (exchanges : List (Exchange E)) : Type 0 where
    pub rest : List ℕ
    pub begins : BeginsWithItems 0 connection.given connection.ended exchanges rest
    pub held : seat.closing ≡ false → seat.feed.reader.held ≡ rest
    pub counted : seat.closing ≡ false → seat.feed.reader.requests ≡ length exchanges
    pub wrote : replies exchanges ≡ connection.taken ++ seat.pending
    pub closing : seat.closing ≡ last_closes exchanges

  -- Where there is one place, the last connection has its seat, and the exchanges came on one
  -- connection after the other.
  pub record GoesInTurn (hall : HallState) (seats : List (Option SeatState))
      (all : List (Exchange E)) : Type 0 where
    pub in_turn : AreInTurn 0 all
    pub of_last : (k : ℕ) (seat : SeatState) → seat_at seats k ≡ Some seat
        → seat.id.number + 1 ≡ length hall.connections

  -- What is true between two turns, where these exchanges were all so far, in this order, on all
  -- connections.
  pub record HasServed (hall : HallState) (seats : List (Option SeatState))
      (all : List (Exchange E)) : Type 0 where
    -- what passed over each connection is its exchanges
    pub each : (n : ℕ) → n < length hall.connections
        → IsServed (connection_at hall n) (exchanges_on n all)
    -- none is of a connection that hasn't begun
    pub none_after : (n : ℕ) → length hall.connections ≤ n → exchanges_on n all ≡ []
    pub seated : (k : ℕ) (seat : SeatState) → seat_at seats k ≡ Some seat
        → HoldsRest seat (connection_at hall seat.id.number) (exchanges_on seat.id.number all)
    pub one_place : length seats ≡ 1 → GoesInTurn hall seats all

-- what was tried on a connection: reads, writes, and its close
abbrev pub tries : ConnectionState → ℕ
tries connection =
    connection.reads + connection.writes + (if connection.closed then 1 else 0)

-- For each time that the connection was reported ready a read or a write was tried on it, or it was
-- closed, or one of the exchanges was made on it; but for as many times as there were failures to
-- allocate.
abbrev pub GoesOn : ConnectionState → ConnectionState → ℕ → ℕ → Type 0
GoesOn old new exchanges failures =
    new.reports + tries old ≤ old.reports + tries new + (exchanges + failures)

-- What was tried on an open connection in a turn in which it was reported ready once or never, by
-- what its seat held before: where bytes of its last reply were pending, one write for each report;
-- and a read only where none were, and no item was complete in the bytes held.
pub record TriesInOrder (seat : SeatState) (ready : ℕ) (old new : ConnectionState) : Type 0 where
  pub writes : 0 < length seat.pending → new.writes ≡ old.writes + ready
  pub reads : (new.reads ≡ old.reads)
      ⊎ ((seat.pending ≡ []) × HasNoCompleteItem seat.feed.reader.held)

-- the same for each open connection
abbrev pub AreTriesInOrder : List (Option SeatState) → HallState → HallState → Type 0
AreTriesInOrder seats old new =
    (k : ℕ) (seat : SeatState) → seat_at seats k ≡ Some seat → TriesInOrder seat
    ((connection_at new seat.id.number).reports - (connection_at old seat.id.number).reports)
    (connection_at old seat.id.number) (connection_at new seat.id.number)

-- A machine, a hall, the seats of its open connections, and the watchers of the machine's edits.
pub record HallServer (M W : Type 0) : Type 0 where
  pub machine : M
  pub hall : HallState
  pub seats : List (Option SeatState)
  pub watchers : W

-- Connections were served on. After the exchanges that were all before, there were these, in this
-- order: by them the machine comes from the state before to the state after, and the watchers were
-- notified of their edits. None was left waiting, but in `failures` turns for want of memory.
-- `Keeps` relates watchers before and after such edits.
pub record ServesOn {M E W : Type 0} (Step : M → Request → List ℕ → M → Option E → Type 0)
    (Keeps : List E → W → W → Type 0) (before : List (Exchange E)) (failures : ℕ)
    (old new : HallServer M W) : Type 0 where
  pub more : List (Exchange E)
  pub steps : AreExchanges Step old.machine more new.machine
  pub served : HasServed new.hall new.seats (before ++ more)
  pub kept : Keeps (edits more) old.watchers new.watchers
  pub goes_on : (n : ℕ) → GoesOn (connection_at old.hall n) (connection_at new.hall n)
      (length (exchanges_on n more)) failures

-- In one turn either no byte is written, or nothing is answered and no watcher is notified: so what
-- is written belongs to replies whose edits were reported in earlier turns.
abbrev pub WritesOrAnswers : {M E W : Type 0} → (List E → W → W → Type 0) → HallServer M W
    → HallServer M W → Type 0
WritesOrAnswers Keeps old new =
    ((n : ℕ) → (connection_at new.hall n).taken ≡ (connection_at old.hall n).taken)
    ⊎ ((new.machine ≡ old.machine) × Keeps [] old.watchers new.watchers)

-- how many connections began
abbrev pub begun_in : Turn → ℕ
begun_in turn.Went = 0
begun_in turn.Began = 1
begun_in turn.NoMemory = 0
begun_in turn.Over = 0
begun_in turn.HallFailed = 0

-- how many calls on the hall failed
abbrev pub faults_in : Turn → ℕ
faults_in turn.Went = 0
faults_in turn.Began = 0
faults_in turn.NoMemory = 0
faults_in turn.Over = 0
faults_in turn.HallFailed = 1

-- how many connections were left waiting when out of memory
abbrev pub memory_failures_in : Turn → ℕ
memory_failures_in turn.Went = 0
memory_failures_in turn.Began = 0
memory_failures_in turn.NoMemory = 1
memory_failures_in turn.Over = 0
memory_failures_in turn.HallFailed = 0

-- each time that a wait reported a connection that can be accepted, one accept was called
abbrev pub AnswersKnocks : HallState → HallState → Type 0
AnswersKnocks old new = new.accepts + old.knocks ≡ old.accepts + new.knocks

-- how many places the wait of a turn offers: one, where more connections are taken and a seat is
-- free
abbrev pub places_offered : Bool → List (Option SeatState) → ℕ
places_offered takes_more seats = if takes_more && list_any is_none seats then 1 else 0

-- The hall after one turn: there was one wait, which offered a place or none.
pub record CountsTurn (made : Turn) (offered : ℕ) (old new : HallState) : Type 0 where
  pub waits : new.waits ≡ old.waits + 1
  pub open_waits : new.open_waits ≡ old.open_waits + offered
  pub faults : new.faults ≡ old.faults + faults_in made
  pub connections : length new.connections ≡ length old.connections + begun_in made
  pub knocks : AnswersKnocks old new
  pub same_listening : new.listening ≡ old.listening
  pub over : made ≡ turn.Over → IsOver new

-- One turn, in which more connections are taken or not.
pub record MakesTurn {M E W : Type 0} (Keeps : List E → W → W → Type 0) (takes_more : Bool)
    (old new : HallServer M W) : Type 0 where
  pub made : Turn
  pub same_number : length new.seats ≡ length old.seats
  pub seats_match : MatchesSeats new.hall new.seats
  pub notified_first : WritesOrAnswers Keeps old new
  pub in_order : AreTriesInOrder old.seats old.hall new.hall
  pub counts : CountsTurn made (places_offered takes_more old.seats) old.hall new.hall

-- This number of turns, one after the other. In each of them more connections are taken exactly
-- where fewer than `most` began before it.
abbrev pub MakesTurns : {M E W : Type 0} → (List E → W → W → Type 0) → ℕ → ℕ → HallServer M W
    → HallServer M W → Type 0
MakesTurns Keeps most zero old new = new ≡ old
MakesTurns {M} {E} {W} Keeps most (suc turns) old new =
    (mid : HallServer M W) × MakesTurns Keeps most turns old mid
    × ((takes_more : Bool) × ((takes_more ≡ true) ↔ (length mid.hall.connections < most))
    × MakesTurn Keeps takes_more mid new)

-- Why no further turn was made: as many connections as wanted began, and all were closed; none is
-- to come, and all were closed; a wait or an accept failed; or as many turns as wanted were made.
abbrev pub HasHallStop : HallStop → ℕ → ℕ → ℕ → HallState → HallState → Type 0
HasHallStop Count most connections turns old new =
    (connections ≡ most) × AreAllClosed new × (new.faults ≡ old.faults)
HasHallStop Over most connections turns old new = IsOver new × (new.faults ≡ old.faults)
HasHallStop HallFailed most connections turns old new = new.faults ≡ old.faults + 1
HasHallStop Turns most connections turns old new =
    (new.waits ≡ old.waits + turns) × (new.faults ≡ old.faults)
