use Rattle.edit_journal.proofs.Broken.{journal_begins}
use Rattle.edit_journal.proofs.recovery_laws.journals_begin_a_text.Goals as goal

pub returns : goal.returns
returns c = record { begins_text = journal_begins }
