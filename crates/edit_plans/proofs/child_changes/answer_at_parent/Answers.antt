use Rattle.std.proofs.Common.{sym, subst}
use Rattle.edit_plans.specs.declared.child_changes.ChildChange.{ChildChange}
use Rattle.edit_plans.specs.inner.ChildChangeResults.{IsChildChangeResult, parent_context}
use Rattle.edit_plans.proofs.child_changes.answer_at_parent.Goals as goal

pub returns-in-Exchange : goal.returns-in-Exchange
returns-in-Exchange c = record {
  request_answer =
      subst (λ (a : ChildChange). IsChildChangeResult (parent_context c.args.parent.now c.args.step.now) c.args.parent.now.path.now a c.replacement_in_parent.result) (sym c.in-Exchange.is) c.replacement_in_parent.ensures.replacement_plan;
}

pub returns-in-SetAttributes : goal.returns-in-SetAttributes
returns-in-SetAttributes c = record {
  request_answer =
      subst (λ (a : ChildChange). IsChildChangeResult (parent_context c.args.parent.now c.args.step.now) c.args.parent.now.path.now a c.attribute_change_in_parent.result) (sym c.in-SetAttributes.is) c.attribute_change_in_parent.ensures.new_tag_plan;
}
