use Rattle.xcap_machine.proofs.KeyAddresses.{made_stays}
use Rattle.xcap_machine.proofs.machine_laws.changes_that_are_made_leave_key_addresses.Goals as goal

pub returns : goal.returns
returns c = record { keeps_selected = made_stays }
