use Rattle.std.proofs.Common.{◌≡◌, ℕ, ◌+◌, ◌<◌, ◌-◌, false}
use Rattle.http_serve.specs.ReplyBytes.{StepsInBytes}
use Rattle.http_serve.proofs.TurnLemmas.{SoFar}
use Rattle.http_serve.proofs.connection.serve_requests.Given as goal

abbrev pub invariant-turns : goal.invariant-turns
invariant-turns g l = record {
  so_far : SoFar (StepsInBytes g.M.Machine.steps) g.W.Watchers.keeps l.fn.machine l.machine l.buffers.request_reader (g.L.Line.state l.fn.line) (g.L.Line.state l.line) l.fn.watchers l.watchers;
  open_still : l.buffers.request_reader.spent ≡ false;
  below : l.buffers.request_reader.requests < 1000;
  room : (n : ℕ) → g.M.Machine.takes l.fn.machine (n + 1000) → g.M.Machine.takes l.machine (n + (1000 - l.buffers.request_reader.requests));
}

abbrev pub decreases-turns : goal.decreases-turns
decreases-turns g l = 1000 - l.buffers.request_reader.requests
