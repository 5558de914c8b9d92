use Rattle.edit_journal.proofs.RestartLemmas.{ends_behind}
use Rattle.edit_journal.proofs.recovery_laws.restarts_do_the_first_requests.Goals as goal

pub returns : goal.returns
returns g c = record { does_first = ends_behind g.R.Replayer.stands g.R.Replayer.refuses }
