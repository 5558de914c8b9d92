use Rattle.edit_journal.proofs.Broken.{first_are_whole, some_are_whole}
use Rattle.edit_journal.proofs.recovery_laws.first_bytes_hold_the_first_requests.Goals as goal

pub returns : goal.returns
returns c = record { some_are_whole = some_are_whole; first_requests_whole = first_are_whole }
