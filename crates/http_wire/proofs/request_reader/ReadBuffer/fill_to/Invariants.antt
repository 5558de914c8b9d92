use Rattle.std.proofs.Common.{◌≡◌, length, ◌-◌}
use Rattle.xcap_io.specs.StreamStates.{DiffersByReads}
use Rattle.http_wire.specs.inner.ReadBuffer.{BuffersMore}
use Rattle.http_wire.proofs.request_reader.ReadBuffer.fill_to.Given as goal

abbrev pub invariant-reading : goal.invariant-reading
invariant-reading g l = record {
  gains : BuffersMore l.fn.self l.self (g.S.Line.state l.fn.source).inward (g.S.Line.state l.source).inward;
  reads : DiffersByReads (g.S.Line.state l.fn.source) (g.S.Line.state l.source);
  no_fault : (g.S.Line.state l.source).read_faults ≡ (g.S.Line.state l.fn.source).read_faults;
}

abbrev pub decreases-reading : goal.decreases-reading
decreases-reading g l = l.count - length l.self
