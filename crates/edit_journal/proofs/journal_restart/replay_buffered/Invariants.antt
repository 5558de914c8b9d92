use Rattle.std.proofs.Common.{◌≡◌, length, Ok}
use Rattle.edit_journal.specs.inner.ReplaySteps.{ReplaysBufferedRecords}
use Rattle.edit_journal.proofs.ReplayedRequests.{replay_progress}
use Rattle.edit_journal.proofs.journal_restart.replay_buffered.Given as goal

abbrev pub invariant-records : goal.invariant-records
invariant-records g l = record {
  redone : ReplaysBufferedRecords g.R.Replayer.stands g.R.Replayer.refuses (replay_progress l.fn.replayer (g.J.Journal.state l.fn.journal) l.fn.log l.fn.count) (replay_progress l.replayer (g.J.Journal.state l.journal) l.log l.count)
      l.fn.read_buffer.held l.read_buffer.held (Ok tt);
  taken : l.read_buffer.taken ≡ l.fn.read_buffer.taken;
  about : g.R.Replayer.about l.replayer ≡ g.R.Replayer.about l.fn.replayer;
}

abbrev pub decreases-records : goal.decreases-records
decreases-records g l = length l.read_buffer.held
