use Rattle.edit_rules.proofs.Stable.{after_change}
use Rattle.edit_rules.proofs.key_laws.a_key_address_keeps_its_element.Goals as goal

pub returns : goal.returns
returns c = record { keeps_key_addresses = λ u t change sound fits sound' selector p q. after_change u t change selector p q sound fits sound' }
