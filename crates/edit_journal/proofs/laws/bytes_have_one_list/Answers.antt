use Rattle.edit_journal.proofs.CompleteRequests.{one_whole}
use Rattle.edit_journal.proofs.laws.bytes_have_one_list.Goals as goal

pub returns : goal.returns
returns c = record { one_reading = one_whole }
