use Rattle.edit_journal.proofs.Pieces.{stream_keeps}
use Rattle.edit_journal.proofs.stream_journal.StreamJournalJournal.cut.Goals as goal

pub returns : goal.returns
returns g c = record {
  cuts_to_len =
      stream_keeps (g.O.Line.state c.args.self.now.output.now) c.args.self.now.output.ghost_name c.args.self.now.len c.args.self.now.faults c.count_fault.new.count c.count_fault.result c.args._len
      c.requires.within c.requires.has_faults c.count_fault.ensures.count_never_falls c.count_fault.ensures.count_rises;
}
