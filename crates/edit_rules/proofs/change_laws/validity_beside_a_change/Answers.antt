use Rattle.edit_rules.proofs.ValidBeside.{valid_beside}
use Rattle.edit_rules.proofs.ValidInside.{valid_over, valid_without}
use Rattle.edit_rules.proofs.change_laws.validity_beside_a_change.Goals as goal

pub returns : goal.returns
returns c = record { on_insertion = valid_beside; on_replacement = λ u t parent child_element new q i. valid_over u t parent child_element new q i; on_removal = valid_without }
