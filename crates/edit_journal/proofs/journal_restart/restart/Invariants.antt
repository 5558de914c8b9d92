use Rattle.std.proofs.Common.{◌≡◌, ◌-◌}
use Rattle.edit_journal.proofs.ReplayedRequests.{replay_progress}
use Rattle.edit_journal.proofs.Rounds.{IsRestarting}
use Rattle.edit_journal.proofs.journal_restart.restart.Given as goal

abbrev pub invariant-reading : goal.invariant-reading
invariant-reading g l = record {
  so_far : IsRestarting g.R.Replayer.stands g.R.Replayer.refuses (record { source = g.S.Line.state l.fn.source; journal = g.J.Journal.state l.fn.journal; replayer = l.fn.replayer }) (g.S.Line.state l.source)
      (replay_progress l.replayer (g.J.Journal.state l.journal) l.log l.count) l.read_buffer;
  about : g.R.Replayer.about l.replayer ≡ g.R.Replayer.about l.fn.replayer;
}

abbrev pub decreases-reading : goal.decreases-reading
decreases-reading g l = 4_294_967_296 - l.read_buffer.taken
