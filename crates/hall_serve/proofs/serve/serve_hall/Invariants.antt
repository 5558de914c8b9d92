use Rattle.std.proofs.Common.{◌≡◌, ◌+◌, ◌-◌, ◌*◌, ◌≤◌, List, length}
use Rattle.http_serve.specs.ReplyBytes.{StepsInBytes}
use Rattle.hall_serve.specs.Exchanges.{Exchange}
use Rattle.hall_serve.specs.Seats.{MatchesSeats, requests_left}
use Rattle.hall_serve.specs.ServedHalls.{HasServed, MakesTurns, ServesOn}
use Rattle.hall_serve.proofs.TurnSums.{CountsTurns}
use Rattle.hall_serve.proofs.serve.serve_hall.Given as goal

abbrev pub invariant-turns : goal.invariant-turns
invariant-turns g l = record {
  same_number : length l.seats ≡ length l.fn.seats;
  seats_match : MatchesSeats (g.H.Hall.state l.hall) l.seats;
  serves_on : (all : List (Exchange g.row.M-Edit.Denot)) → HasServed (g.H.Hall.state l.fn.hall) l.fn.seats all → ServesOn (StepsInBytes g.M.Machine.steps) g.W.Watchers.keeps all l.memory_failures
      (record { machine = l.fn.machine; hall = g.H.Hall.state l.fn.hall; seats = l.fn.seats; watchers = l.fn.watchers })
      (record { machine = l.machine; hall = g.H.Hall.state l.hall; seats = l.seats; watchers = l.watchers });
  counts : CountsTurns l.connections l._turn (g.H.Hall.state l.fn.hall) (g.H.Hall.state l.hall);
  chain : MakesTurns g.W.Watchers.keeps (length (g.H.Hall.state l.fn.hall).connections + l.count) l._turn
      (record { machine = l.fn.machine; hall = g.H.Hall.state l.fn.hall; seats = l.fn.seats; watchers = l.fn.watchers })
      (record { machine = l.machine; hall = g.H.Hall.state l.hall; seats = l.seats; watchers = l.watchers });
  within : l.connections ≤ l.count;
  failures : l.memory_failures ≤ l._turn;
  room : g.M.Machine.takes l.machine (requests_left l.seats + (l.count - l.connections) * 1000);
}
