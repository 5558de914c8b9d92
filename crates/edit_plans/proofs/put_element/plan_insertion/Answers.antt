use Rattle.std.proofs.Common.{◌≡◌, ◌-◌, ◌∷◌, [], Some, length, ◌∙◌, subst, arith}
use Rattle.node_select.specs.declared.selector.Step.{Step}
use Rattle.usage_docs.specs.SchemaTable.{root_kind}
use Rattle.edit_plans.specs.inner.ChildChangeResults.{FitsWithinLevels, IsInsertionResult, HasNoClash}
use Rattle.edit_plans.specs.inner.ParentPaths.{HoldsAtParent}
use Rattle.edit_plans.proofs.PlanAt.{none_clash}
use Rattle.edit_plans.proofs.PlanUnder.{parent_is_there, planned, last_step_is}
use Rattle.edit_plans.proofs.Ways.{tell_at_root, told_at_root}
use Rattle.edit_plans.proofs.put_element.plan_insertion.Goals as goal

pub answer_child_change-gap-requires-clause-place_exists : goal.answer_child_change-gap-requires-clause-place_exists
answer_child_change-gap-requires-clause-place_exists c = parent_is_there c.args.root.now c.args.place.now c.requires.selects_parent.before c.requires.selects_parent.selects

pub answer_child_change-gap-requires-clause-change_asked : goal.answer_child_change-gap-requires-clause-change_asked
answer_child_change-gap-requires-clause-change_asked c =
    let u = c.args.usage in
    let t = c.args.root.now in
    let q = c.args.place.now in
    tell_at_root u t q (λ row d x. HasNoClash row d x × FitsWithinLevels q c.args.element) (λ parent there. (none_clash u t parent q c.requires.faultless.2 there, c.requires.room_left))

pub returns : goal.returns
returns c = record {
  plans_insertion =
      let u = c.args.usage in
      let t = c.args.root.now in
      let q = c.args.place.now in
      let new = c.args.element in
      let steps = c.args.steps.now in
      let parent = c.requires.selects_parent in
      let le = c.in-len1-up.len_at_least in
      let same : c.step-item.result ≡ parent.step = c.step-item.is ∙ last_step_is steps parent.before parent.step c.step-item.result (length steps - 1) parent.are (omega arith) in
      let placed = subst (λ (s : Step). HoldsAtParent (λ row d x. IsInsertionResult (record { kind = row; scope = d; step = s; element = x }) new q c.answer_child_change-gap.result) (Some (root_kind u)) (t.decls ∷ []) t q) same c.answer_child_change-gap.ensures.answer_at_place in
      planned u t new q steps parent.before parent.step c.answer_child_change-gap.result c.element_insertion.result parent.are parent.selects c.requires.faultless
      (told_at_root u t q (λ row d x. IsInsertionResult (record { kind = row; scope = d; step = parent.step; element = x }) new q c.answer_child_change-gap.result) placed) c.element_insertion.ensures.exact;
}
