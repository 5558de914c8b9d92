-- What each call on a hall makes of the hall's state, by what the call returned. This is the
-- project's own model.
use Rattle.std.specs.Prelude.{ℕ, ◌+◌, ◌==◌, List, [], ◌∷◌, ◌++◌, take, drop, true, Option, None}
use Rattle.std.specs.Prelude.{Some, Result, Ok, Err, option_map, Bool, if◌then◌else◌}
use Rattle.halls.specs.declared.hall.Event.{Event}
use Rattle.halls.specs.declared.hall.Event.TheVariants.{Knock, Ready, Late, Quiet, Over}
use Rattle.halls.specs.declared.hall.ConnectionId.{ConnectionId}
use Rattle.halls.specs.declared.hall.Progress.{Progress}
use Rattle.halls.specs.declared.hall.Progress.TheVariants.{Moved, Blocked}
use Rattle.halls.specs.declared.hall_log.Call.{Call}
use Rattle.halls.specs.declared.hall_log.Call.TheVariants.{Listen, Wait, Accept, Read, Write, Close}
use Rattle.halls.specs.HallState.{ConnectionState, HallState, new_connection, with_connection}
use Rattle.halls.specs.HallState.{with_fault}

-- On `Ok` the hall listens at the address.
abbrev pub hall_after_listen : {E : Type 0} → List ℕ → Result (Unit {0}) E → HallState → HallState
hall_after_listen address (Ok x) hall = record hall { listening = Some address }
hall_after_listen address (Err e) hall = with_fault hall

-- a wait reported the connection ready
abbrev pub with_report : ConnectionState → ConnectionState
with_report connection = record connection { reports = connection.reports + 1 }

-- a read or a write failed, or the connection's time was up
abbrev pub with_break : ConnectionState → ConnectionState
with_break connection = record connection { broken = true }

-- what a wait reported, apart from the count of waits
abbrev pub hall_after_event : {E : Type 0} → Result Event E → HallState → HallState
hall_after_event (Ok Knock) hall = record hall { knocks = hall.knocks + 1 }
hall_after_event (Ok (Ready id)) hall = with_connection hall id.number with_report
hall_after_event (Ok (Late id)) hall = with_connection hall id.number with_break
hall_after_event (Ok Quiet) hall = hall
hall_after_event (Ok Over) hall = hall
hall_after_event (Err e) hall = with_fault hall

-- the hall after one more wait, in which more connections were taken or not
abbrev pub with_wait : Bool → HallState → HallState
with_wait takes_more hall =
    record hall {
      waits = hall.waits + 1;
      open_waits = hall.open_waits + (if takes_more then 1 else 0);
    }

-- A connection whose time is up is broken; else a wait only counts.
abbrev pub hall_after_wait : {E : Type 0} → Bool → Result Event E → HallState → HallState
hall_after_wait takes_more result hall = hall_after_event result (with_wait takes_more hall)

-- the first of the texts, and none where there is none
abbrev pub first_text : List (List ℕ) → List ℕ
first_text [] = []
first_text (text ∷ more) = text

-- the first connection that is to come has begun, at this place
abbrev pub with_next_connection : ℕ → HallState → HallState
with_next_connection place hall =
    record hall {
      connections =
          hall.connections ++ new_connection place (option_map first_text hall.to_come) ∷ [];
      to_come = option_map (drop 1) hall.to_come;
    }

-- what came of an `accept` for this place, apart from the count of calls
abbrev pub hall_after_arrival : {E : Type 0} → ℕ → Result (Option ConnectionId) E → HallState
    → HallState
hall_after_arrival place (Ok (Some id)) hall = with_next_connection place hall
hall_after_arrival place (Ok None) hall = hall
hall_after_arrival place (Err e) hall = with_fault hall

-- Where a connection was there to be accepted it begins, after the others.
abbrev pub hall_after_accept : {E : Type 0} → ℕ → Result (Option ConnectionId) E → HallState
    → HallState
hall_after_accept place result hall =
    hall_after_arrival place result (record hall { accepts = hall.accepts + 1 })

-- a read gave these bytes; no bytes mean the end
abbrev pub with_read_bytes : ℕ → List ℕ → ConnectionState → ConnectionState
with_read_bytes count buf connection =
    record connection {
      given = connection.given ++ take count buf;
      ended = count == 0;
      left = option_map (drop count) connection.left;
    }

-- what one read made of the connection, apart from the count of reads
abbrev pub connection_after_read : {E : Type 0} → List ℕ → Result Progress E → ConnectionState
    → ConnectionState
connection_after_read buf (Ok (Moved count)) connection = with_read_bytes count buf connection
connection_after_read buf (Ok Blocked) connection = connection
connection_after_read buf (Err e) connection = with_break connection

-- A read gives bytes of that connection alone, and is counted there whatever comes of it.
abbrev pub hall_after_read : {E : Type 0} → ℕ → List ℕ → Result Progress E → HallState → HallState
hall_after_read n buf result hall = with_connection hall n
    (λ connection. connection_after_read buf result
    (record connection { reads = connection.reads + 1 }))

-- what one write made of the connection, apart from the count of writes
abbrev pub connection_after_write : {E : Type 0} → List ℕ → Result Progress E → ConnectionState
    → ConnectionState
connection_after_write piece (Ok (Moved count)) connection =
    record connection { taken = connection.taken ++ take count piece }
connection_after_write piece (Ok Blocked) connection = connection
connection_after_write piece (Err e) connection = with_break connection

-- A write hands bytes over to that connection alone, and is counted there whatever comes of it.
abbrev pub hall_after_write : {E : Type 0} → ℕ → List ℕ → Result Progress E → HallState → HallState
hall_after_write n piece result hall = with_connection hall n
    (λ connection. connection_after_write piece result
    (record connection { writes = connection.writes + 1 }))

abbrev pub with_close : ConnectionState → ConnectionState
with_close connection = record connection { closed = true }

abbrev pub hall_after_close : ℕ → HallState → HallState
hall_after_close n hall = with_connection hall n with_close

-- what a call made of the hall
abbrev pub hall_after_call : HallState → Call → HallState
hall_after_call hall (Listen address result) = hall_after_listen address.now result hall
hall_after_call hall (Wait takes_more result) = hall_after_wait takes_more result hall
hall_after_call hall (Accept place result) = hall_after_accept place result hall
hall_after_call hall (Read id buf result) = hall_after_read id.number buf.now result hall
hall_after_call hall (Write id piece result) = hall_after_write id.number piece.now result hall
hall_after_call hall (Close id) = hall_after_close id.number hall
