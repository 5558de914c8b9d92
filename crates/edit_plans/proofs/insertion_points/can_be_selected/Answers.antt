use Rattle.std.proofs.Common.{refl}
use Rattle.xml_tree.specs.Tree.{child_elements_of}
use Rattle.node_select.specs.Selection.{step_tests}
use Rattle.edit_plans.proofs.SideLemmas.{free_none}
use Rattle.edit_plans.proofs.insertion_points.can_be_selected.Goals as goal

pub returns-in-None : goal.returns-in-None
returns-in-None c = record {
  exact =
      free_none (step_tests c.args.parent.now.scope.now c.args.step.now) (child_elements_of c.args.parent.now.element.now) c.any_passes.result _ c.in-None.is refl c.any_passes.ensures.exact;
}
