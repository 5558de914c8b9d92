use Rattle.std.proofs.Common.{◌≡◌, ◌≤◌, length, take, ◌-◌}
use Rattle.xcap_io.specs.StreamStates.{DiffersByReads}
use Rattle.http_wire.specs.Heads.{HasNoHead}
use Rattle.http_wire.specs.inner.ReadBuffer.{BuffersMore}
use Rattle.http_wire.proofs.head_scan.read_head.Given as goal

abbrev pub invariant-looking : goal.invariant-looking
invariant-looking g l = record {
  gains : BuffersMore l.fn.read_buffer l.read_buffer (g.S.Line.state l.fn.source).inward (g.S.Line.state l.source).inward;
  reads : DiffersByReads (g.S.Line.state l.fn.source) (g.S.Line.state l.source);
  no_fault : (g.S.Line.state l.source).read_faults ≡ (g.S.Line.state l.fn.source).read_faults;
  inside : l.seen ≤ length l.read_buffer;
  none : HasNoHead (take l.seen l.read_buffer);
}

abbrev pub decreases-looking : goal.decreases-looking
decreases-looking g l = 278_528 - length l.read_buffer
