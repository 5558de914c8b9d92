use Rattle.request_checks.proofs.Values.{said-value, value-said}
use Rattle.request_checks.proofs.condition_laws.fields_have_one_reading.Goals as goal

pub returns : goal.returns
returns c = record { exact = λ lines value. (said-value lines value, value-said lines value) }
