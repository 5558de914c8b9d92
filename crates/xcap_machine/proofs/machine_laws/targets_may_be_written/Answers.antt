use Rattle.xcap_machine.proofs.AttributeAddresses.{writable}
use Rattle.xcap_machine.proofs.machine_laws.targets_may_be_written.Goals as goal

pub returns : goal.returns
returns c = record { writable_target = writable }
