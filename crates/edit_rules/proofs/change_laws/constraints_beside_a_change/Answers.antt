use Rattle.edit_rules.proofs.ReplacedElements.{formed_over}
use Rattle.edit_rules.proofs.FormedBeside.{formed_beside}
use Rattle.edit_rules.proofs.RemovedElements.{formed_without}
use Rattle.edit_rules.proofs.change_laws.constraints_beside_a_change.Goals as goal

pub returns : goal.returns
returns c = record { on_insertion = formed_beside; on_replacement = formed_over; on_removal = formed_without }
