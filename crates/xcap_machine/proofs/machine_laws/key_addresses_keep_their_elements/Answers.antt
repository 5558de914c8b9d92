use Rattle.xcap_machine.proofs.Addresses.{addresses_stay}
use Rattle.xcap_machine.proofs.machine_laws.key_addresses_keep_their_elements.Goals as goal

pub returns : goal.returns
returns c = record { keeps_elements = addresses_stay }
