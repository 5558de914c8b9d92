use Rattle.std.proofs.Common.{◌≤◌, ◌-◌, ◌*◌}
use Rattle.http_serve.specs.ReplyBytes.{StepsInBytes}
use Rattle.http_serve.proofs.Ports.{PortSoFar}
use Rattle.http_serve.proofs.accept_loop.serve_streams.Given as goal

abbrev pub invariant-connections : goal.invariant-connections
invariant-connections g l = record {
  so_far : PortSoFar (StepsInBytes g.M.Machine.steps) g.W.Watchers.keeps l.connections l.last l.fn.machine l.machine (g.P.Line.state l.fn.port) (g.P.Line.state l.port) l.fn.watchers l.watchers;
  within : l.connections ≤ l.count;
  room : g.M.Machine.takes l.machine ((l.count - l.connections) * 1000);
}

abbrev pub decreases-connections : goal.decreases-connections
decreases-connections g l = l.count - l.connections
