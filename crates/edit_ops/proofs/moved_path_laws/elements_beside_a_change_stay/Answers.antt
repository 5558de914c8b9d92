use Rattle.edit_ops.proofs.MoveLaws.{others_stay}
use Rattle.edit_ops.proofs.moved_path_laws.elements_beside_a_change_stay.Goals as goal

pub returns : goal.returns
returns c = record { keeps_others = others_stay }
