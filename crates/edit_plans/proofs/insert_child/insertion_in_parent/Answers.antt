use Rattle.std.proofs.Common.{◌∙◌, ap, ℕ, Result, Err, subst}
use Rattle.edit_plans.specs.declared.insertion_points.NoInsertionPoint.{NoInsertionPoint}
use Rattle.edit_plans.proofs.ParentAnswers.{Chosen, placed_invalid, placed_ok, placed_unlawful}
use Rattle.edit_plans.proofs.insert_child.insertion_in_parent.Goals as goal

pub returns-in-Ok : goal.returns-in-Ok
returns-in-Ok c = record {
  insertion_plan =
      let chosen = subst (λ (r : Result ℕ NoInsertionPoint). Chosen c.args.parent.now.kind c.args.parent.now.scope.now c.args.step.now c.args.parent.now.element.now c.args.new.now c.args.parent.now.path.now r) c.in-Ok.is c.choose_gap.ensures.lawful_plan in
      let row = c.args.parent.now.kind in
      let scope = c.args.parent.now.scope.now in
      let new = c.args.new.now in
      let q = c.args.parent.now.path.now in
      placed_ok row scope c.args.step.now c.args.parent.now.element.now new q c.in-Ok.gap c.check_new_child.result chosen c.check_new_child.ensures.judged_by_rules;
}

pub returns-in-Err-Unlawful : goal.returns-in-Err-Unlawful
returns-in-Err-Unlawful c = record {
  insertion_plan =
      let chosen = subst (λ (r : Result ℕ NoInsertionPoint). Chosen c.args.parent.now.kind c.args.parent.now.scope.now c.args.step.now c.args.parent.now.element.now c.args.new.now c.args.parent.now.path.now r) (c.in-Err-Unlawful.is ∙ ap (λ (e : NoInsertionPoint). Err e) c.in-Err-Unlawful.field-0-is) c.choose_gap.ensures.lawful_plan in
      placed_unlawful c.args.parent.now.kind c.args.parent.now.scope.now c.args.step.now c.args.parent.now.element.now c.args.new.now c.args.parent.now.path.now chosen;
}

pub returns-in-Err-Invalid : goal.returns-in-Err-Invalid
returns-in-Err-Invalid c = record {
  insertion_plan =
      let chosen = subst (λ (r : Result ℕ NoInsertionPoint). Chosen c.args.parent.now.kind c.args.parent.now.scope.now c.args.step.now c.args.parent.now.element.now c.args.new.now c.args.parent.now.path.now r) (c.in-Err-Invalid.is ∙ ap (λ (e : NoInsertionPoint). Err e) c.in-Err-Invalid.field-0-is) c.choose_gap.ensures.lawful_plan in
      placed_invalid c.args.parent.now.kind c.args.parent.now.scope.now c.args.step.now c.args.parent.now.element.now c.args.new.now c.args.parent.now.path.now chosen;
}
