use Rattle.request_checks.proofs.ReadConditions.{one_outcome, some_outcome}
use Rattle.request_checks.proofs.laws.conditions_have_one_outcome.Goals as goal

pub returns-clause-at_least_one : goal.returns-clause-at_least_one
returns-clause-at_least_one c = some_outcome

pub returns-clause-at_most_one : goal.returns-clause-at_most_one
returns-clause-at_most_one c = one_outcome
