use Rattle.std.proofs.Common.{◌≡◌, ◌++◌, ◌∷◌, [], ℕ, ◌+◌, length, length-append, List, refl, sym, ap, ◌∙◌, subst, arith}
use Rattle.node_select.specs.Selection.{SelectsPath}
use Rattle.edit_ops.specs.declared.change.Change.TheVariants.{Replace}
use Rattle.edit_rules.specs.declared.edit_refusal.EditRefusal.TheVariants.{CannotInsert}
use Rattle.edit_rules.specs.LawfulInsertions.{IsLawfulReplacement}
use Rattle.edit_rules.specs.CheckedChanges.{IsCheckedChange, IsCheckedIfLawful}
use Rattle.edit_plans.specs.inner.ChangeResults.{allowed_change}
use Rattle.edit_plans.proofs.PlanTag.{only_the_root, root_over}
use Rattle.edit_plans.proofs.SpotLemmas.{last_parts}
use Rattle.edit_plans.proofs.PlanAt.{empty_path, ends_with, may_select, over_by, parent_of, parent_there}
use Rattle.edit_plans.specs.inner.ChildChangeResults.{FitsWithinLevels, IsReplacementResult, IsSelectedChild}
use Rattle.edit_plans.proofs.Ways.{tell_at_root, told_at_root}
use Rattle.edit_plans.proofs.put_element.plan_replacement.Goals as goal

-- the root
pub root_replacement-found-requires-clause-root_alone : goal.root_replacement-found-requires-clause-root_alone
root_replacement-found-requires-clause-root_alone c =
    let t = c.args.root.now in
    let steps = c.args.steps.now in
    let root : c.args.path.now ≡ [] = empty_path c.split_last.result c.args.path.now c.split_last.ensures.some_below_root c.in_default.is in
    let e = last_parts steps t c.args.path.now c.requires.selected in
    only_the_root t c.args.element steps e.0 e.1.0 e.1.1 (subst (λ (p : List ℕ). SelectsPath steps t p) root c.requires.selected)

pub returns-in_default : goal.returns-in_default
returns-in_default c = record {
  plans_replacement =
      let u = c.args.usage in
      let t = c.args.root.now in
      let steps = c.args.steps.now in
      let new = c.args.element in
      let root : c.args.path.now ≡ [] = empty_path c.split_last.result c.args.path.now c.split_last.ensures.some_below_root c.in_default.is in
      subst (λ (l : List ℕ). IsCheckedIfLawful CannotInsert (IsLawfulReplacement steps t new l) (IsCheckedChange u t (Replace l new)) c.element_replacement.result) (sym root)
      (root_over u t new steps c.root_replacement-found.result c.element_replacement.result c.root_replacement-found.ensures.new_root_plan (c.element_replacement.ensures.exact ∙ ap (λ (l : List ℕ). allowed_change (Replace l new) c.root_replacement-found.result) root));
}

-- what the code has: the parent and the last step
pub answer_child_change-found-requires-clause-place_exists : goal.answer_child_change-found-requires-clause-place_exists
answer_child_change-found-requires-clause-place_exists c =
    let t = c.args.root.now in
    let steps = c.args.steps.now in
    let q = c.in-Some.place in
    let j = c.in-Some.child in
    let s = c.step-item.result in
    let at_p : c.args.path.now ≡ q ++ j ∷ [] = (c.in-Some.ensures {u = tt}).path_parts in
    let e = ends_with steps steps s refl c.in-len1-up.len_at_least c.step-item.is in
    parent_there t steps e.0 s q j (parent_of t steps e.0 s q j e.1 (subst (λ (p : List ℕ). SelectsPath steps t p) at_p c.requires.selected))

pub answer_child_change-found-requires-clause-change_asked : goal.answer_child_change-found-requires-clause-change_asked
answer_child_change-found-requires-clause-change_asked c =
    let t = c.args.root.now in
    let steps = c.args.steps.now in
    let q = c.in-Some.place in
    let j = c.in-Some.child in
    let s = c.step-item.result in
    let at_p : c.args.path.now ≡ q ++ j ∷ [] = (c.in-Some.ensures {u = tt}).path_parts in
    let e = ends_with steps steps s refl c.in-len1-up.len_at_least c.step-item.is in
    let p = parent_of t steps e.0 s q j e.1 (subst (λ (p : List ℕ). SelectsPath steps t p) at_p c.requires.selected) in
    let room = c.requires.room_left in
    let deep : length c.args.path.now ≡ length q + 1 = ap (λ (l : List ℕ). length l) at_p ∙ length-append q (j ∷ []) in
    tell_at_root c.args.usage t q (λ row d x. IsSelectedChild (record { kind = row; scope = d; step = s; element = x }) j × FitsWithinLevels q c.args.element) (λ parent there. (may_select c.args.usage t steps e.0 s q j p c.requires.faultless.2 parent there, omega arith))

pub returns : goal.returns
returns c = record {
  plans_replacement =
      let u = c.args.usage in
      let t = c.args.root.now in
      let steps = c.args.steps.now in
      let new = c.args.element in
      let q = c.in-Some.place in
      let j = c.in-Some.child in
      let s = c.step-item.result in
      let at_p : c.args.path.now ≡ q ++ j ∷ [] = (c.in-Some.ensures {u = tt}).path_parts in
      let e = ends_with steps steps s refl c.in-len1-up.len_at_least c.step-item.is in
      let sel = subst (λ (p : List ℕ). SelectsPath steps t p) at_p c.requires.selected in
      let p = parent_of t steps e.0 s q j e.1 sel in
      subst (λ (l : List ℕ). IsCheckedIfLawful CannotInsert (IsLawfulReplacement steps t new l) (IsCheckedChange u t (Replace l new)) c.element_replacement-2.result) (sym at_p)
      (over_by u t new steps e.0 s q j p c.requires.faultless sel c.answer_child_change-found.result c.element_replacement-2.result (told_at_root u t q (λ row d x. IsReplacementResult (record { kind = row; scope = d; step = s; element = x }) j new q c.answer_child_change-found.result) c.answer_child_change-found.ensures.answer_at_place) (c.element_replacement-2.ensures.exact ∙ ap (λ (l : List ℕ). allowed_change (Replace l new) c.answer_child_change-found.result) at_p));
}
