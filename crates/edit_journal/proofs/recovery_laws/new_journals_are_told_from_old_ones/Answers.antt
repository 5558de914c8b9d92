use Rattle.edit_journal.proofs.RestartCopies.{copies, more_shows}
use Rattle.edit_journal.proofs.recovery_laws.new_journals_are_told_from_old_ones.Goals as goal

pub returns-clause-copies_prefix : goal.returns-clause-copies_prefix
returns-clause-copies_prefix g c = copies g.R.Replayer.stands g.R.Replayer.refuses

pub returns-clause-next_record_shown : goal.returns-clause-next_record_shown
returns-clause-next_record_shown g c = more_shows
