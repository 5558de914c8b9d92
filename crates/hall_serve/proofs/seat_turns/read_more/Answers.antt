use Rattle.hall_serve.specs.inner.SeatTurns.{failures_in, seat_after}
use Rattle.hall_serve.proofs.SameSeats.{passes_before}
use Rattle.hall_serve.proofs.SeatCalls.{tried_none}
use Rattle.hall_serve.proofs.seat_turns.read_more.Goals as goal

pub returns-in-Ok : goal.returns-in-Ok
returns-in-Ok g c = record {
  passes = passes_before c.args.seat.now c.reserve.new.self c.reserve.ensures.same_seat 1 (failures_in c.read_into.result) (seat_after c.read_into.result c.read_into.new.seat) (g.H.Hall.state c.args.hall.now) (g.H.Hall.state c.read_into.new.hall)
      c.read_into.ensures.passes;
}

pub returns-in-Err : goal.returns-in-Err
returns-in-Err g c = record {
  passes = tried_none c.args.seat.now (g.H.Hall.state c.args.hall.now) c.requires.open c.reserve.new.self (g.H.Hall.state c.defer.new.self) c.defer.ensures.unchanged c.requires.none_pending c.reserve.ensures.same_seat;
}
