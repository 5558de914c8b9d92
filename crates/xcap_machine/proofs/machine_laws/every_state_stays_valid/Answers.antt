use Rattle.xcap_machine.proofs.Steps.{kept_after}
use Rattle.xcap_machine.proofs.machine_laws.every_state_stays_valid.Goals as goal

pub returns : goal.returns
returns c = record { next_is_valid = λ root m request reply next edit kept s. kept_after root m request reply next edit s kept }
