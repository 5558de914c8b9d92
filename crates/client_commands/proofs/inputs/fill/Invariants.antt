use Rattle.std.proofs.Common.{◌≡◌, ◌-◌, ◌≤◌, length, take}
use Rattle.xcap_io.specs.StreamTraffic.{GivesBytes}
use Rattle.xcap_io.specs.StreamStates.{DiffersByReads}
use Rattle.client_commands.proofs.inputs.fill.Given as goal

abbrev pub invariant-reading : goal.invariant-reading
invariant-reading g l = record {
  within : l.held ≤ length l.buffer;
  consumed : GivesBytes (g.I.Line.state l.fn.input).inward (g.I.Line.state l.input).inward (take l.held l.buffer);
  reads : DiffersByReads (g.I.Line.state l.fn.input) (g.I.Line.state l.input);
  stayed : (g.I.Line.state l.input).read_faults ≡ (g.I.Line.state l.fn.input).read_faults;
}

abbrev pub decreases-reading : goal.decreases-reading
decreases-reading g l = length l.buffer - l.held
