use Rattle.std.proofs.Common.{◌≡◌, length, ◌-◌, ◌≤◌, take}
use Rattle.xcap_io.specs.StreamStates.{DiffersByWrites}
use Rattle.xcap_io.specs.StreamTraffic.{TakesBytes}
use Rattle.xcap_io.proofs.full_writes.write_all.Given as goal

abbrev pub invariant-loop-done : goal.invariant-loop-done
invariant-loop-done g l = record {
  within : l.done ≤ length l.bytes;
  taken : TakesBytes (g.S.Line.state l.fn.sink).taken (g.S.Line.state l.sink).taken (take l.done l.bytes);
  writes : DiffersByWrites (g.S.Line.state l.fn.sink) (g.S.Line.state l.sink);
  stayed : (g.S.Line.state l.sink).write_faults ≡ (g.S.Line.state l.fn.sink).write_faults;
}

abbrev pub decreases-loop-done : goal.decreases-loop-done
decreases-loop-done g l = length l.bytes - l.done
