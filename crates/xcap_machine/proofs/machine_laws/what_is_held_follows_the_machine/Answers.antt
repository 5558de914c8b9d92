use Rattle.xcap_machine.proofs.Steps.{step_of}
use Rattle.xcap_machine.proofs.machine_laws.what_is_held_follows_the_machine.Goals as goal

pub returns : goal.returns
returns c = record { represents_after = step_of }
