use Rattle.std.proofs.Common.{◌≡◌, ◌++◌, ◌∷◌, [], ℕ, List, Some, sym, ap, ◌∙◌, subst}
use Rattle.std.proofs.lemmas.Option.{same_Some}
use Rattle.xml_tree.specs.Tree.{Tree, at}
use Rattle.xml_tree.specs.TreeScopes.{scope_at}
use Rattle.node_select.specs.Selection.{SelectsPath}
use Rattle.usage_docs.specs.ElementKinds.{kind_at}
use Rattle.edit_rules.specs.StartTags.{start_tag_with, with_attrs}
use Rattle.edit_plans.specs.inner.ChildChangeResults.{FitsWithinLevels, IsRootTagResult, IsNewTagResult, IsSelectedChild}
use Rattle.edit_plans.specs.inner.ChangeResults.{IsNewTagResultAt}
use Rattle.edit_plans.proofs.PlanAt.{empty_path, ends_with, may_select, parent_of, parent_there}
use Rattle.edit_plans.proofs.PlanTag.{retag_by, root_alone, root_retag_is, tag_room}
use Rattle.edit_plans.proofs.Ways.{tell_at_root, told_at_root}
use Rattle.edit_plans.proofs.attribute_changes.plan_attribute_change.Goals as goal

-- at the root
pub returns-in_default-split_last : goal.returns-in_default-split_last
returns-in_default-split_last c = record {
  new_tag_plan =
      let u = c.args.usage in
      let t = c.args.root.now in
      let selector = c.args.selector.now in
      let steps = selector.steps in
      let s = c.step-item.result in
      let element = c.args.element.now in
      let tag = c.args.tag.now in
      let sought = c.args.sought.now in
      let root : c.args.path.now ≡ [] = empty_path c.split_last.result c.args.path.now c.split_last.ensures.some_below_root c.in_default-split_last.is in
      let e = ends_with steps c.as_slice.result.now s c.as_slice.ensures.exact c.in-len1-up.len_at_least c.step-item.is in
      let sel = subst (λ (p : List ℕ). SelectsPath steps t p) root c.requires.selected in
      let same : t ≡ element = same_Some t element (subst (λ (p : List ℕ). at p t ≡ Some element) root c.requires.place_exists) in
      let is : tag ≡ start_tag_with tag.attrs t = c.requires.tag ∙ ap (start_tag_with tag.attrs) (sym same) in
      let r = c.root_attribute_change.result in
      subst (λ (p : List ℕ). IsNewTagResultAt (record { usage = u; document = t; selector = selector }) p (with_attrs tag.attrs element) sought r) (sym root)
      (subst (λ (x : Tree). IsNewTagResultAt (record { usage = u; document = t; selector = selector }) [] (with_attrs tag.attrs x) sought r) same
      (root_retag_is u t selector s tag.attrs sought r (root_alone t steps e.0 s e.1 sel) sel c.requires.selector_end c.requires.faultless (subst (λ (x : Tree). IsRootTagResult u s x sought r) is c.root_attribute_change.ensures.new_tag_plan)));
}

-- below it
pub answer_child_change-requires-clause-place_exists : goal.answer_child_change-requires-clause-place_exists
answer_child_change-requires-clause-place_exists c =
    let t = c.args.root.now in
    let steps = c.args.selector.now.steps in
    let q = c.in-Some.place in
    let j = c.in-Some.child in
    let s = c.step-item.result in
    let at_p : c.args.path.now ≡ q ++ j ∷ [] = (c.in-Some.ensures {u = tt}).path_parts in
    let e = ends_with steps c.as_slice.result.now s c.as_slice.ensures.exact c.in-len1-up.len_at_least c.step-item.is in
    parent_there t steps e.0 s q j (parent_of t steps e.0 s q j e.1 (subst (λ (p : List ℕ). SelectsPath steps t p) at_p c.requires.selected))

pub answer_child_change-requires-clause-change_asked : goal.answer_child_change-requires-clause-change_asked
answer_child_change-requires-clause-change_asked c =
    let t = c.args.root.now in
    let steps = c.args.selector.now.steps in
    let q = c.in-Some.place in
    let j = c.in-Some.child in
    let s = c.step-item.result in
    let at_p : c.args.path.now ≡ q ++ j ∷ [] = (c.in-Some.ensures {u = tt}).path_parts in
    let e = ends_with steps c.as_slice.result.now s c.as_slice.ensures.exact c.in-len1-up.len_at_least c.step-item.is in
    let p = parent_of t steps e.0 s q j e.1 (subst (λ (p : List ℕ). SelectsPath steps t p) at_p c.requires.selected) in
    let there = subst (λ (p : List ℕ). at p t ≡ Some c.args.element.now) at_p c.requires.place_exists in
    tell_at_root c.args.usage t q (λ row d parent. IsSelectedChild (record { kind = row; scope = d; step = s; element = parent }) j × FitsWithinLevels q c.args.tag.now) (λ parent at_q. (may_select c.args.usage t steps e.0 s q j p c.requires.faultless.2 parent at_q, tag_room t c.args.element.now c.args.tag.now q j c.args.tag.now.attrs c.requires.height_bounded there c.requires.tag))

pub returns : goal.returns
returns c = record {
  new_tag_plan =
      let u = c.args.usage in
      let t = c.args.root.now in
      let selector = c.args.selector.now in
      let steps = selector.steps in
      let q = c.in-Some.place in
      let j = c.in-Some.child in
      let s = c.step-item.result in
      let element = c.args.element.now in
      let tag = c.args.tag.now in
      let sought = c.args.sought.now in
      let at_p : c.args.path.now ≡ q ++ j ∷ [] = (c.in-Some.ensures {u = tt}).path_parts in
      let e = ends_with steps c.as_slice.result.now s c.as_slice.ensures.exact c.in-len1-up.len_at_least c.step-item.is in
      let sel = subst (λ (p : List ℕ). SelectsPath steps t p) at_p c.requires.selected in
      let there = subst (λ (p : List ℕ). at p t ≡ Some element) at_p c.requires.place_exists in
      let p = parent_of t steps e.0 s q j e.1 sel in
      let r = c.answer_child_change.result in
      let answered = subst (λ (x : Tree). (parent : Tree) → at q t ≡ Some parent → IsNewTagResult (record { kind = kind_at u t q; scope = scope_at q t; step = s; element = parent }) (record { child = j; tag = x; sought = sought }) q r) c.requires.tag (told_at_root u t q (λ row d parent. IsNewTagResult (record { kind = row; scope = d; step = s; element = parent }) (record { child = j; tag = tag; sought = sought }) q r) c.answer_child_change.ensures.answer_at_place) in
      subst (λ (l : List ℕ). IsNewTagResultAt (record { usage = u; document = t; selector = selector }) l (with_attrs tag.attrs element) sought r) (sym at_p)
      (retag_by u t element selector e.0 s q j p tag.attrs sought c.requires.selector_end c.requires.faultless there sel r answered);
}
