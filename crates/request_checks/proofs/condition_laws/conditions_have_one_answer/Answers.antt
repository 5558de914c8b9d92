use Rattle.request_checks.proofs.Values.{one_conditions, some_conditions}
use Rattle.request_checks.proofs.condition_laws.conditions_have_one_answer.Goals as goal

pub returns-clause-at_least_one : goal.returns-clause-at_least_one
returns-clause-at_least_one c = some_conditions

pub returns-clause-at_most_one : goal.returns-clause-at_most_one
returns-clause-at_most_one c = one_conditions
