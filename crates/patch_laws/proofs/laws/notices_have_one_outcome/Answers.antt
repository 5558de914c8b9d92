use Rattle.patch_laws.proofs.Outcomes.{one_outcome, some_outcome}
use Rattle.patch_laws.proofs.laws.notices_have_one_outcome.Goals as goal

pub returns : goal.returns
returns c = record { outcome_exists = some_outcome; at_most_one = one_outcome }
