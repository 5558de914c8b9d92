-- A seat when its connection has just begun.
use Rattle.std.specs.Prelude.{false, []}
use Rattle.halls.specs.declared.hall.ConnectionId.{ConnectionId}
use Rattle.http_feed.specs.Feeds.{fresh_feed}
use Rattle.hall_serve.specs.Seats.{SeatState}

abbrev pub new_seat : ConnectionId → SeatState
new_seat id =
    record { id = id; feed = fresh_feed; pending = []; closing = false; ended = false }
