use Rattle.std.proofs.Common.{rules, IsTrue}
use Rattle.xml_tree.specs.Tree.{child_elements_of}
use Rattle.node_select.specs.Selection.{step_tests}
use Rattle.edit_plans.specs.inner.Neighbours.{FitsInsertionPoint}
use Rattle.edit_plans.specs.declared.insertion_points.NoInsertionPoint.TheVariants.{Unlawful, Invalid}
use Rattle.edit_plans.proofs.ParentAnswers.{true_false}
use Rattle.edit_plans.proofs.SideLemmas.{not_free}
use Rattle.edit_plans.proofs.insertion_points.choose_gap.Goals as goal

pub returns-then-not-can_be_selected : goal.returns-then-not-can_be_selected
returns-then-not-can_be_selected c = record {
  lawful_plan =
      not_free Unlawful Invalid (step_tests c.args.parent.now.scope.now c.args.step.now) (child_elements_of c.args.parent.now.element.now) c.args.new.now (FitsInsertionPoint c.args.parent.now.kind c.args.parent.now.scope.now c.args.parent.now.element.now.content c.args.new.now)
      (λ f. true_false c.can_be_selected.result (c.can_be_selected.ensures.exact.1 f) c.if-not-can_be_selected.true);
}

pub greatest_gap-requires-clause-position_free : goal.greatest_gap-requires-clause-position_free
greatest_gap-requires-clause-position_free c =
    let is : IsTrue c.can_be_selected.result = search rules in c.can_be_selected.ensures.exact.0 is
