use Rattle.std.proofs.Common.{◌≡◌, ◌++◌, ◌∷◌, [], ℕ, List, refl, sym, ap, ◌∙◌, subst, Err}
use Rattle.node_select.specs.Selection.{SelectsPath}
use Rattle.edit_ops.specs.declared.change.Change.TheVariants.{Remove}
use Rattle.usage_docs.specs.declared.validation.Fault.TheVariants.{Invalid}
use Rattle.edit_rules.specs.declared.edit_refusal.EditRefusal.TheVariants as refusals
use Rattle.edit_rules.specs.Deletions.{IsElementRemoval}
use Rattle.edit_plans.specs.inner.ChildChangeResults.{IsRemovalResult, IsSelectedChild}
use Rattle.edit_plans.specs.inner.ChangeResults.{allowed_change}
use Rattle.edit_plans.proofs.PlanAt.{delete_by, empty_path, ends_with, may_select, parent_of, parent_there, removal_by}
use Rattle.edit_plans.proofs.Ways.{tell_at_root, told_at_root}
use Rattle.edit_plans.proofs.delete_node.plan_removal.Goals as goal

pub returns-in_default : goal.returns-in_default
returns-in_default c = record {
  plans_removal =
      let t = c.args.root.now in
      let selector = c.args.selector.now in
      let root : c.args.path ≡ [] = empty_path c.split_last.result c.args.path c.split_last.ensures.some_below_root c.in_default.is in
      delete_by c.args.usage t selector c.args.path (Err (refusals.Faulty Invalid)) c.requires.selector_end c.requires.selected (subst (λ (p : List ℕ). IsElementRemoval (record { usage = c.args.usage; document = t; selector = selector }) p (Err (refusals.Faulty Invalid))) (sym root) refl);
}

pub answer_child_change-found-requires-clause-place_exists : goal.answer_child_change-found-requires-clause-place_exists
answer_child_change-found-requires-clause-place_exists c =
    let t = c.args.root.now in
    let steps = c.args.selector.now.steps in
    let q = c.in-Some.place in
    let j = c.in-Some.child in
    let s = c.step-item.result in
    let at_p : c.args.path ≡ q ++ j ∷ [] = (c.in-Some.ensures {u = tt}).path_parts in
    let e = ends_with steps c.as_slice.result.now s c.as_slice.ensures.exact c.in-len1-up.len_at_least c.step-item.is in
    parent_there t steps e.0 s q j (parent_of t steps e.0 s q j e.1 (subst (λ (p : List ℕ). SelectsPath steps t p) at_p c.requires.selected))

pub answer_child_change-found-requires-clause-change_asked : goal.answer_child_change-found-requires-clause-change_asked
answer_child_change-found-requires-clause-change_asked c =
    let t = c.args.root.now in
    let steps = c.args.selector.now.steps in
    let q = c.in-Some.place in
    let j = c.in-Some.child in
    let s = c.step-item.result in
    let at_p : c.args.path ≡ q ++ j ∷ [] = (c.in-Some.ensures {u = tt}).path_parts in
    let e = ends_with steps c.as_slice.result.now s c.as_slice.ensures.exact c.in-len1-up.len_at_least c.step-item.is in
    let p = parent_of t steps e.0 s q j e.1 (subst (λ (p : List ℕ). SelectsPath steps t p) at_p c.requires.selected) in
    tell_at_root c.args.usage t q (λ row scope parent. IsSelectedChild (record { kind = row; scope = scope; step = s; element = parent }) j) (λ parent there. may_select c.args.usage t steps e.0 s q j p c.requires.faultless.2 parent there)

pub returns : goal.returns
returns c = record {
  plans_removal =
      let t = c.args.root.now in
      let selector = c.args.selector.now in
      let steps = selector.steps in
      let q = c.in-Some.place in
      let j = c.in-Some.child in
      let s = c.step-item.result in
      let at_p : c.args.path ≡ q ++ j ∷ [] = (c.in-Some.ensures {u = tt}).path_parts in
      let e = ends_with steps c.as_slice.result.now s c.as_slice.ensures.exact c.in-len1-up.len_at_least c.step-item.is in
      let sel = subst (λ (p : List ℕ). SelectsPath steps t p) at_p c.requires.selected in
      let p = parent_of t steps e.0 s q j e.1 sel in
      let found = told_at_root c.args.usage t q (λ row scope parent. IsRemovalResult (record { kind = row; scope = scope; step = s; element = parent }) j c.answer_child_change-found.result) c.answer_child_change-found.ensures.answer_at_place in
      removal_by c.args.usage t selector e.0 s q j p c.requires.selector_end c.requires.faultless sel c.answer_child_change-found.result c.element_removal.result found (c.element_removal.ensures.exact ∙ ap (λ (l : List ℕ). allowed_change (Remove l) c.answer_child_change-found.result) at_p);
}
