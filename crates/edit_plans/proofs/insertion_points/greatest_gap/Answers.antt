use Rattle.xml_tree.specs.Tree.{child_elements_of}
use Rattle.node_select.specs.Selection.{step_tests}
use Rattle.edit_plans.specs.inner.Neighbours.{FitsInsertionPoint}
use Rattle.edit_plans.specs.declared.insertion_points.NoInsertionPoint.TheVariants.{Unlawful, Invalid}
use Rattle.edit_plans.proofs.SideLemmas.{last_of_all}
use Rattle.edit_plans.proofs.insertion_points.greatest_gap.Goals as goal

pub returns-then-takes_last_gap : goal.returns-then-takes_last_gap
returns-then-takes_last_gap c = record {
  lawful_plan =
      let last = c.takes_last_gap.ensures.fits_any_order c.if-takes_last_gap.true in
      last_of_all Unlawful Invalid (step_tests c.args.parent.now.scope.now c.args.step.now) (child_elements_of c.args.parent.now.element.now) c.args.new.now (FitsInsertionPoint c.args.parent.now.kind c.args.parent.now.scope.now c.args.parent.now.element.now.content c.args.new.now) c.count_children-many.result
      c.count_children-many.ensures.exact last.0 c.requires.name_matches c.requires.test_matches c.requires.position_free last.1;
}
