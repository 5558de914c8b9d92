-- The plans of attributes: the conditions on a new start tag are those on the whole document.
use Rattle.std.proofs.Common.{arith, length-append, ◌≤◌, ◌≡◌, ◌↔◌, inl, inr, ℕ, List, [], ◌∷◌, ◌++◌, Option, Some, None, IsSome, IsTrue, find, Result, Err, remove, slice_get, refl, sym, ap, ◌∙◌, subst}
use Rattle.std.specs.Option.{option_copied}
use Rattle.std.proofs.lemmas.Option.{same_Some}
use Rattle.doc_names.specs.declared.usages.Usage.{Usage}
use Rattle.xml_tree.specs.Tree.{Tree, at, height, child_elements_of}
use Rattle.xml_tree.proofs.PlaceLaws.{height-at}
use Rattle.xml_names.specs.Attributes.{with_attr, without_attr}
use Rattle.xml_tree.specs.Edits.{drop_attr_at, drop_attr, put_over, set_attr_at, set_attr_value}
use Rattle.xml_tree.specs.TreeScopes.{scope_at, inside}
use Rattle.xml_names.specs.declared.names.Attr.{Attr}
use Rattle.xml_names.specs.declared.names.Name.{Name}
use Rattle.node_select.specs.declared.selector.Step.{Step}
use Rattle.node_select.specs.declared.selector.End.TheVariants as ends
use Rattle.node_select.specs.declared.selector.Selector.{Selector}
use Rattle.node_select.specs.Selection.{has_end, is_attr_named, is_tested, FindsNode, SelectsPath}
use Rattle.node_select.proofs.Along.{one_path, path_there}
use Rattle.usage_docs.specs.declared.validation.Fault.TheVariants.{Invalid}
use Rattle.usage_docs.specs.Validation.{HasFirstFault}
use Rattle.usage_docs.specs.SchemaTable.{Scope}
use Rattle.edit_ops.specs.declared.change.Change.{Change}
use Rattle.edit_ops.specs.declared.change.Change.TheVariants.{DropAttr, Replace, SetAttr}
use Rattle.edit_rules.specs.declared.edit_refusal.EditRefusal.{EditRefusal}
use Rattle.edit_rules.specs.declared.edit_refusal.EditRefusal.TheVariants.{CannotInsert, CannotDelete, NotFound}
use Rattle.edit_rules.specs.AttributePuts.{FindsValue, IsValuePlan, IsAttributeWrite, written_name}
use Rattle.edit_rules.specs.Deletions.{FindsNothingAfter, IsDeletePlan, IsDeletePlanFor}
use Rattle.usage_docs.specs.ElementKinds.{kind_at}
use Rattle.edit_rules.specs.LawfulInsertions.{IsLawfulReplacement}
use Rattle.edit_rules.specs.CheckedChanges.{IsCheckedChange, IsCheckedIfLawful}
use Rattle.edit_rules.specs.StartTags.{HasFormedAttrs, start_tag_with, with_attrs}
use Rattle.edit_rules.specs.inner.TestedValues.{tested_value}
use Rattle.edit_rules.proofs.Places.{as_exchange}
use Rattle.edit_rules.proofs.RemovedElements.{no_shorter}
use Rattle.edit_rules.proofs.TagSelection.{any_found, found_any, finds, found_from, found_to, only_retag, only_root, scope_retag, selected_retag, selected_root, there_retag}
use Rattle.edit_rules.proofs.TagChanges.{first_retag, foreign_retag, formed_retag, valid_retag, valid_root}
use Rattle.edit_plans.specs.declared.child_attributes.AttributeEdit.{AttributeEdit}
use Rattle.edit_plans.specs.inner.ChildChangeResults.{FitsWithinLevels, IsNewTagResult, IsRootTagResult, not_found_refusal}
use Rattle.edit_plans.specs.inner.ChangeResults.{IsFoundAsSought, IsNewTagResultAt, IsResultIfLawful, allowed_change}
use Rattle.edit_plans.proofs.ParentAnswers.{judged_from, made_tested}
use Rattle.edit_plans.proofs.PlanAt.{HasParent, child_at}

-- ---- what is found as it should be

-- the steps select exactly the element with the new start tag, if its parent's step tests it
module _ (selector : Selector) (after new : Tree) (p : List ℕ) (c : Scope) (s : Step) (uri local : List ℕ) (selected : SelectsPath selector.steps after p ↔ IsTrue (is_tested c s new)) (only : (p' : List ℕ) → SelectsPath selector.steps after p' → p' ≡ p) (there : at p after ≡ Some new)
    (scope : scope_at p after ≡ inside c new) (ends_so : selector.end ≡ ends.Attribute uri local) where
  pub as_sought : (wanted : Option (List ℕ)) → IsFoundAsSought selector (record { path = p; uri = uri; local = local }) after wanted ↔ (tested_value c s uri local new ≡ wanted)
  as_sought (Some v) = finds selector.steps after new p c s selected only there scope uri local v
  as_sought None = (λ nothing. none nothing (tested_value c s uri local new) refl, λ is f. some is (found_to selector.steps after new p c s selected only there scope selector uri local refl ends_so f))
    where
      none : (FindsNode after selector → ⊥) → (o : Option (List ℕ)) → tested_value c s uri local new ≡ o → tested_value c s uri local new ≡ None
      none nothing None is = is
      none nothing (Some v) is = absurd (nothing (found_from selector.steps after new p c s selected only there scope selector uri local v refl ends_so is))

      some : tested_value c s uri local new ≡ None → (v : List ℕ) × (tested_value c s uri local new ≡ Some v) → ⊥
      some is (v, h) = let z = sym is ∙ h in cc

-- ---- below the root

module _ (u : Usage) (t e : Tree) (selector : Selector) (before : List Step) (s : Step) (q : List ℕ) (j : ℕ) (p : HasParent t selector.steps before s q j) (at_p : at (q ++ j ∷ []) t ≡ Some e) (ats : List Attr) (sought : AttributeEdit)
    (ends_so : selector.end ≡ ends.Attribute sought.uri.now sought.local.now) (faultless : HasFirstFault u t None) (is_kid : slice_get (child_elements_of p.parent) j ≡ Some e) (sel : SelectsPath (p.first ∷ (p.steps ++ s ∷ [])) t (q ++ j ∷ [])) where
  abbrev c : Scope
  c = scope_at q t

  abbrev after : Tree
  after = put_over (q ++ j ∷ []) (with_attrs ats e) t

  sought_is : (wanted : Option (List ℕ)) → IsFoundAsSought selector (record { path = q ++ j ∷ []; uri = sought.uri.now; local = sought.local.now }) after wanted ↔ (tested_value c s sought.uri.now sought.local.now (with_attrs ats e) ≡ wanted)
  sought_is =
      let selected = selected_retag p.first p.steps s t p.parent e q j ats p.there is_kid at_p sel in
      let only = only_retag p.first p.steps s t p.parent e q j ats p.there is_kid at_p sel in
      as_sought selector after (with_attrs ats e) (q ++ j ∷ []) c s sought.uri.now sought.local.now
      (subst (λ (l : List Step). SelectsPath l after (q ++ j ∷ []) ↔ IsTrue (is_tested c s (with_attrs ats e))) (sym p.are) selected)
      (subst (λ (l : List Step). (p' : List ℕ) → SelectsPath l after p' → p' ≡ q ++ j ∷ []) (sym p.are) only)
      (there_retag p.first p.steps s t p.parent e q j ats p.there is_kid at_p sel) (scope_retag p.first p.steps s t p.parent e q j ats p.there is_kid at_p sel) ends_so

  pub retag_is : (r : Result ℕ EditRefusal) → IsNewTagResult (record { kind = kind_at u t q; scope = c; step = s; element = p.parent }) (record { child = j; tag = start_tag_with ats e; sought = sought }) q r → IsNewTagResultAt (record { usage = u; document = t; selector = selector }) (q ++ j ∷ []) (with_attrs ats e) sought r
  retag_is r (inl h) = inl (h.0, λ l. h.1 ((sought_is (option_copied sought.value)).0 l))
  retag_is r (inr (inl h)) = inr ((sought_is (option_copied sought.value)).1 h.1, (Some Invalid, ((λ v. h.2 ((valid_retag u t p.parent e q j ats p.there is_kid at_p faultless.0).0 v)), h.0)))
  retag_is r (inr (inr h)) =
      let row = kind_at u t q in
      inr (
        (sought_is (option_copied sought.value)).1 h.0,
        judged_from (HasFormedAttrs row c (start_tag_with ats e)) row c (remove (child_elements_of p.parent) j) (start_tag_with ats e) q j u after r ((valid_retag u t p.parent e q j ats p.there is_kid at_p faultless.0).1 h.1) (formed_retag u t p.parent e q j ats p.there is_kid at_p faultless.1)
            (λ kind is found. (first_retag u t p.parent e q j ats p.there is_kid at_p faultless.2 kind is found).0) (foreign_retag u t p.parent e q j ats p.there is_kid at_p faultless.2) h.2,
      )

-- below the root, by the result at the parent
pub retag_by : (u : Usage) (t e : Tree) (selector : Selector) (before : List Step) (s : Step) (q : List ℕ) (j : ℕ) (p : HasParent t selector.steps before s q j) (ats : List Attr) (sought : AttributeEdit) → selector.end ≡ ends.Attribute sought.uri.now sought.local.now → HasFirstFault u t None → at (q ++ j ∷ []) t ≡ Some e → SelectsPath selector.steps t (q ++ j ∷ [])
    → (found : Result ℕ EditRefusal) → ((parent : Tree) → at q t ≡ Some parent → IsNewTagResult (record { kind = kind_at u t q; scope = scope_at q t; step = s; element = parent }) (record { child = j; tag = start_tag_with ats e; sought = sought }) q found) → IsNewTagResultAt (record { usage = u; document = t; selector = selector }) (q ++ j ∷ []) (with_attrs ats e) sought found
retag_by u t e selector before s q j p ats sought ends_so faultless at_p sel found h =
    let child_element = p.selects.this.child_element in
    let same : child_element ≡ e = same_Some child_element e (sym (child_at t p.parent child_element q j p.there p.selects.this.there) ∙ at_p) in
    let is_kid = p.selects.this.there ∙ ap (λ (x : Tree). Some x) same in
    retag_is u t e selector before s q j p at_p ats sought ends_so faultless is_kid (subst (λ (l : List Step). SelectsPath l t (q ++ j ∷ [])) p.are sel) found (h p.parent p.there)

-- the new start tag has the levels of an element without children
pub tag_room : (t e tag : Tree) (q : List ℕ) (j : ℕ) (ats : List Attr) → height t ≤ 64 → at (q ++ j ∷ []) t ≡ Some e → tag ≡ start_tag_with ats e → FitsWithinLevels q tag
tag_room t e tag q j ats low at_p is =
    let deep = height-at (q ++ j ∷ []) e t at_p in
    let long = length-append q (j ∷ []) in
    subst (λ (x : Tree). FitsWithinLevels q x) (sym is) (omega arith)

-- ---- the root

pub root_alone : (t : Tree) (all before : List Step) (s : Step) → all ≡ before ++ s ∷ [] → SelectsPath all t [] → all ≡ s ∷ []
root_alone t all [] s are h = are
root_alone t all (first ∷ steps) s are h = absurd (no_shorter steps s _ _ (subst (λ (l : List Step). SelectsPath l t []) are h).1.2)

-- a step that selects the root selects nothing below any
pub only_the_root : (t new : Tree) (all before : List Step) (s : Step) → all ≡ before ++ s ∷ [] → SelectsPath all t [] → (p : List ℕ) → SelectsPath all new p → p ≡ []
only_the_root t new all before s are h p h' = by p (subst (λ (l : List Step). SelectsPath l new p) (root_alone t all before s are h) h')
  where
    by : (p : List ℕ) → SelectsPath (s ∷ []) new p → p ≡ []
    by [] x = refl
    by (n ∷ p) x = absurd x.1.2

-- another root, by its result
pub root_over : (u : Usage) (t new : Tree) (all : List Step) (found : Result ℕ EditRefusal) (result : Result Change EditRefusal) → IsResultIfLawful CannotInsert (SelectsPath all new []) u new found → result ≡ allowed_change (Replace [] new) found
    → IsCheckedIfLawful CannotInsert (IsLawfulReplacement all t new []) (IsCheckedChange u t (Replace [] new)) result
root_over u t new all found result h is =
    subst (λ (r : Result Change EditRefusal). IsCheckedIfLawful CannotInsert (IsLawfulReplacement all t new []) (IsCheckedChange u t (Replace [] new)) r) (sym is) (made_tested CannotInsert (IsLawfulReplacement all t new []) u t (Replace [] new) found h)

pub root_retag_is : (u : Usage) (t : Tree) (selector : Selector) (s : Step) (ats : List Attr) (sought : AttributeEdit) (r : Result ℕ EditRefusal) → selector.steps ≡ s ∷ [] → SelectsPath selector.steps t [] → selector.end ≡ ends.Attribute sought.uri.now sought.local.now → HasFirstFault u t None
    → IsRootTagResult u s (start_tag_with ats t) sought r → IsNewTagResultAt (record { usage = u; document = t; selector = selector }) [] (with_attrs ats t) sought r
root_retag_is u t selector s ats sought r are sel ends_so faultless h = by h
  where
    new : Tree
    new = with_attrs ats t

    sel_one : SelectsPath (s ∷ []) t []
    sel_one = subst (λ (l : List Step). SelectsPath l t []) are sel

    sought_is : IsFoundAsSought selector (record { path = []; uri = sought.uri.now; local = sought.local.now }) (with_attrs ats t) (option_copied sought.value) ↔ (tested_value [] s sought.uri.now sought.local.now (with_attrs ats t) ≡ option_copied sought.value)
    sought_is =
        as_sought selector (with_attrs ats t) (with_attrs ats t) [] [] s sought.uri.now sought.local.now
        (subst (λ (l : List Step). SelectsPath l (with_attrs ats t) [] ↔ IsTrue (is_tested [] s (with_attrs ats t))) (sym are) (selected_root s t ats sel_one))
        (subst (λ (l : List Step). (p' : List ℕ) → SelectsPath l (with_attrs ats t) p' → p' ≡ []) (sym are) (only_root s t ats sel_one)) refl refl ends_so (option_copied sought.value)

    by : IsRootTagResult u s (start_tag_with ats t) sought r → IsNewTagResultAt (record { usage = u; document = t; selector = selector }) [] (with_attrs ats t) sought r
    by (inl x) = inl (x.0, λ l. x.1 (sought_is.0 l))
    by (inr (inl x)) = inr (sought_is.1 x.1, (Some Invalid, ((λ v. x.2 ((valid_root u t ats faultless.0).0 v)), x.0)))
    by (inr (inr x)) = inr (sought_is.1 x.1, (None, (((valid_root u t ats faultless.0).1 x.2, faultless.1, faultless.2), (0, x.0))))

-- ---- the plans

-- what the steps select exists
pub selected_there : (steps : List Step) (t : Tree) (p : List ℕ) → SelectsPath steps t p → None ≡ at p t → ⊥
selected_there steps t p sel none = let there = subst (λ (o : Option Tree). IsSome o) (sym none) (path_there steps t p sel) in cc

-- the writing of an attribute
pub writing_is : (u : Usage) (t e : Tree) (selector : Selector) (p : List ℕ) (uri local value : List ℕ) (name : Name) (found : Result ℕ EditRefusal) → at p t ≡ Some e
    → IsResultIfLawful CannotInsert (FindsValue selector.steps (record { path = p; uri = uri; local = local }) (put_over p (with_attrs (with_attr name value e.attrs) e) t) value) u (put_over p (with_attrs (with_attr name value e.attrs) e) t) found
    → IsAttributeWrite (record { usage = u; document = t; steps = selector.steps }) (record { path = p; uri = uri; local = local }) value (Some name) (allowed_change (SetAttr p name value) found)
writing_is u t e selector p uri local value name found there h =
    let same : set_attr_at p name value t ≡ put_over p (set_attr_value name value e) t = as_exchange p (set_attr_value name value) e t there in
    made_tested CannotInsert (FindsValue selector.steps (record { path = p; uri = uri; local = local }) (set_attr_at p name value t) value) u t (SetAttr p name value) found
    (subst (λ (x : Tree). IsResultIfLawful CannotInsert (FindsValue selector.steps (record { path = p; uri = uri; local = local }) x value) u x found) (sym same) h)

-- the writing of an attribute, by the result for the new start tag
as_value : (u : Usage) (after : Tree) (selector : Selector) (p : List ℕ) (uri uri' local local' value : List ℕ) (wanted : Option (List ℕ)) (found : Result ℕ EditRefusal) → uri' ≡ uri → local' ≡ local → wanted ≡ Some value
    → IsResultIfLawful (not_found_refusal wanted) (IsFoundAsSought selector (record { path = p; uri = uri'; local = local' }) after wanted) u after found → IsResultIfLawful CannotInsert (FindsValue selector.steps (record { path = p; uri = uri; local = local }) after value) u after found
as_value u after selector p uri uri' local local' value wanted found same_uri same_local is h =
    subst (λ (x : List ℕ). IsResultIfLawful CannotInsert (FindsValue selector.steps (record { path = p; uri = x; local = local }) after value) u after found) same_uri
    (subst (λ (x : List ℕ). IsResultIfLawful CannotInsert (FindsValue selector.steps (record { path = p; uri = uri'; local = x }) after value) u after found) same_local
    (subst (λ (o : Option (List ℕ)). IsResultIfLawful (not_found_refusal o) (IsFoundAsSought selector (record { path = p; uri = uri'; local = local' }) after o) u after found) is h))

module _ (u : Usage) (t e : Tree) (selector : Selector) (p : List ℕ) (uri local value : List ℕ) (there : at p t ≡ Some e) where
  pub value_plan : (name : Name) (ats : List Attr) (sought : AttributeEdit) (found : Result ℕ EditRefusal) (result : Result Change EditRefusal) → written_name (scope_at p t) uri local e.attrs ≡ Some name → ats ≡ with_attr name value e.attrs
      → sought.uri.now ≡ uri → sought.local.now ≡ local → option_copied sought.value ≡ Some value
      → IsNewTagResultAt (record { usage = u; document = t; selector = selector }) p (with_attrs ats e) sought found → result ≡ allowed_change (SetAttr p name value) found → IsValuePlan (record { usage = u; document = t; steps = selector.steps }) (record { path = p; uri = uri; local = local }) value result
  value_plan name ats sought found result has_name ats_are same_uri same_local wanted h is =
      let after = put_over p (with_attrs ats e) t in
      let tested = as_value u after selector p uri sought.uri.now local sought.local.now value (option_copied sought.value) found same_uri same_local wanted h in
      let written = subst (λ (xs : List Attr). IsResultIfLawful CannotInsert (FindsValue selector.steps (record { path = p; uri = uri; local = local }) (put_over p (with_attrs xs e) t) value) u (put_over p (with_attrs xs e) t) found) ats_are tested in
      let plan = writing_is u t e selector p uri local value name found there written in
      record {
        element = e;
        there = there;
        plan = subst (λ (o : Option Name). IsAttributeWrite (record { usage = u; document = t; steps = selector.steps }) (record { path = p; uri = uri; local = local }) value o result) (sym has_name)
            (subst (λ (r : Result Change EditRefusal). IsAttributeWrite (record { usage = u; document = t; steps = selector.steps }) (record { path = p; uri = uri; local = local }) value (Some name) r) (sym is) plan);
      }

-- the removal of an attribute
pub dropping_is : (u : Usage) (t e : Tree) (selector : Selector) (p : List ℕ) (name : Name) (found : Result ℕ EditRefusal) → at p t ≡ Some e
    → IsResultIfLawful CannotDelete (FindsNode (put_over p (with_attrs (without_attr name e.attrs) e) t) selector → ⊥) u (put_over p (with_attrs (without_attr name e.attrs) e) t) found
    → IsCheckedIfLawful CannotDelete (FindsNothingAfter selector t (DropAttr p name)) (IsCheckedChange u t (DropAttr p name)) (allowed_change (DropAttr p name) found)
dropping_is u t e selector p name found there h =
    let same : drop_attr_at p name t ≡ put_over p (drop_attr name e) t = as_exchange p (drop_attr name) e t there in
    made_tested CannotDelete (FindsNothingAfter selector t (DropAttr p name)) u t (DropAttr p name) found
    (subst (λ (x : Tree). IsResultIfLawful CannotDelete (FindsNode x selector → ⊥) u x found) (sym same) h)

-- what is found, and its plan
found_attr : (t e : Tree) (selector : Selector) (p : List ℕ) (uri local : List ℕ) (attr : Attr) → selector.end ≡ ends.Attribute uri local → SelectsPath selector.steps t p → at p t ≡ Some e → find (is_attr_named (scope_at p t) uri local) e.attrs ≡ Some attr → FindsNode t selector
found_attr t e selector p uri local attr ends_so sel there that = record {
  path = p;
  element = e;
  selects = sel;
  there = there;
  has = subst (λ x. IsTrue (has_end x (scope_at p t) e)) (sym ends_so) (found_any (is_attr_named (scope_at p t) uri local) e.attrs attr that);
}

pub drop_plan : (u : Usage) (t e : Tree) (selector : Selector) (p : List ℕ) (uri local : List ℕ) (attr : Attr) (result : Result Change EditRefusal) → selector.end ≡ ends.Attribute uri local → SelectsPath selector.steps t p → at p t ≡ Some e → find (is_attr_named (scope_at p t) uri local) e.attrs ≡ Some attr
    → IsCheckedIfLawful CannotDelete (FindsNothingAfter selector t (DropAttr p attr.name)) (IsCheckedChange u t (DropAttr p attr.name)) result → IsDeletePlan u t selector result
unfolding found_attr
drop_plan u t e selector p uri local attr result ends_so sel there that h =
    inr (found_attr t e selector p uri local attr ends_so sel there that, subst (λ x. IsDeletePlanFor (record { usage = u; document = t; selector = selector }) p e x result) (sym ends_so) (record { attr = attr; that = that; then = h }))

pub drop_nothing : (u : Usage) (t e : Tree) (selector : Selector) (p : List ℕ) (uri local : List ℕ) → selector.end ≡ ends.Attribute uri local → SelectsPath selector.steps t p → at p t ≡ Some e → find (is_attr_named (scope_at p t) uri local) e.attrs ≡ None → IsDeletePlan u t selector (Err NotFound)
drop_nothing u t e selector p uri local ends_so sel there none = inl (refl, by)
  where
    by : FindsNode t selector → ⊥
    by f =
        let path : f.path ≡ p = one_path selector.steps t f.path p f.selects sel in
        let element : f.element ≡ e = same_Some _ _ (sym f.there ∙ ap (λ (l : List ℕ). at l t) path ∙ there) in
        let has = subst (λ x. IsTrue (has_end x (scope_at p t) e)) ends_so
        (subst (λ (x : Tree). IsTrue (has_end selector.end (scope_at p t) x)) element (subst (λ (l : List ℕ). IsTrue (has_end selector.end (scope_at l t) f.element)) path f.has)) in
        let a = any_found (is_attr_named (scope_at p t) uri local) e.attrs has in
        let z = sym none ∙ a.1 in cc
