use Rattle.std.proofs.Common.{◌≡◌, length, ◌-◌, ◌≤◌, ◌++◌, take}
use Rattle.xcap_io.specs.StreamStates.{DiffersByWrites}
use Rattle.edit_journal.proofs.Pieces.{counted}
use Rattle.edit_journal.proofs.stream_journal.StreamJournalJournal.append.Given as goal

abbrev pub invariant-loop-done : goal.invariant-loop-done
invariant-loop-done g l = record {
  within : l.done ≤ length l.bytes;
  taken : (g.O.Line.state l.self.output.now).taken ≡ (g.O.Line.state l.fn.self.output.now).taken ++ take l.done l.bytes;
  writes : DiffersByWrites (g.O.Line.state l.fn.self.output.now) (g.O.Line.state l.self.output.now);
  stayed : (g.O.Line.state l.self.output.now).write_faults ≡ (g.O.Line.state l.fn.self.output.now).write_faults;
  count : l.self.len ≡ counted l.fn.self.len l.done;
  name : l.self.output.ghost_name ≡ l.fn.self.output.ghost_name;
  faults : l.self.faults ≡ l.fn.self.faults;
}

abbrev pub decreases-loop-done : goal.decreases-loop-done
decreases-loop-done g l = length l.bytes - l.done
