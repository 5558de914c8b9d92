use Rattle.xcap_machine.proofs.Effects.{second_put_leaves}
use Rattle.xcap_machine.proofs.machine_laws.a_second_put_leaves_every_tree.Goals as goal

pub returns : goal.returns
returns c = record { leaves_trees = second_put_leaves }
