-- The removal of an attribute, by the result for the start tag without it.
use Rattle.std.proofs.Common.{◌≡◌, ℕ, List, get_or, Option, Some, None, find, option_map, Result, sym, ap, ◌∙◌, subst}
use Rattle.std.specs.List.{position}
use Rattle.std.specs.Option.{option_copied}
use Rattle.std.proofs.lemmas.Option.{same_Some}
use Rattle.doc_names.specs.declared.usages.Usage.{Usage}
use Rattle.xml_tree.specs.Tree.{Tree, at}
use Rattle.xml_names.specs.Attributes.{without_attr}
use Rattle.xml_tree.specs.Edits.{put_over}
use Rattle.xml_tree.specs.TreeScopes.{scope_at}
use Rattle.xml_names.specs.declared.names.Attr.{Attr}
use Rattle.xml_names.specs.declared.names.Name.{Name}
use Rattle.node_select.specs.declared.selector.End.TheVariants as ends
use Rattle.node_select.specs.declared.selector.Selector.{Selector}
use Rattle.node_select.specs.Selection.{FindsNode, SelectsPath, is_attr_named}
use Rattle.usage_docs.specs.SchemaTable.{Scope}
use Rattle.edit_ops.specs.declared.change.Change.{Change}
use Rattle.edit_ops.specs.declared.change.Change.TheVariants.{DropAttr}
use Rattle.edit_rules.specs.declared.edit_refusal.EditRefusal.{EditRefusal}
use Rattle.edit_rules.specs.declared.edit_refusal.EditRefusal.TheVariants.{CannotDelete}
use Rattle.edit_rules.specs.Deletions.{FindsNothingAfter, IsDeletePlan}
use Rattle.edit_rules.specs.CheckedChanges.{IsCheckedChange, IsCheckedIfLawful}
use Rattle.edit_rules.specs.StartTags.{with_attrs}
use Rattle.edit_plans.specs.declared.child_attributes.AttributeEdit.{AttributeEdit}
use Rattle.edit_plans.specs.inner.ChildChangeResults.{not_found_refusal}
use Rattle.edit_plans.specs.inner.ChangeResults.{IsFoundAsSought, IsNewTagResultAt, IsResultIfLawful, allowed_change}
use Rattle.edit_plans.proofs.PlanTag.{drop_plan, dropping_is}
use Rattle.edit_plans.proofs.TagLemmas.{found_at_position}

-- ---- as the code finds them

-- the scope at an element, and the index of an attribute in it
pub scope_is : (t e : Tree) (p : List ℕ) (c : Scope) → at p t ≡ Some e → Some c ≡ option_map (λ _. scope_at p t) (at p t) → c ≡ scope_at p t
scope_is t e p c there is = same_Some c (scope_at p t) (is ∙ ap (option_map (λ _. scope_at p t)) there)

pub place_is : (t e : Tree) (p : List ℕ) (c : Scope) (u uri l local : List ℕ) (o : Option ℕ) → c ≡ scope_at p t → u ≡ uri → l ≡ local
    → o ≡ position (is_attr_named c u l) e.attrs → o ≡ position (is_attr_named (scope_at p t) uri local) e.attrs
place_is t e p c u uri l local o in_scope of_uri of_local is =
    is
    ∙ ap (λ (d : Scope). position (is_attr_named d u l) e.attrs) in_scope
    ∙ ap (λ (x : List ℕ). position (is_attr_named (scope_at p t) x l) e.attrs) of_uri
    ∙ ap (λ (x : List ℕ). position (is_attr_named (scope_at p t) uri x) e.attrs) of_local

-- the attribute at the index is the first of its name
pub attr_found : (t e : Tree) (p : List ℕ) (uri local : List ℕ) (i : ℕ) (attr : Attr) (ats : List Attr) → ats ≡ e.attrs → attr ≡ get_or ats i attr
    → position (is_attr_named (scope_at p t) uri local) e.attrs ≡ Some i → find (is_attr_named (scope_at p t) uri local) e.attrs ≡ Some attr
attr_found t e p uri local i attr ats are is place =
    found_at_position (is_attr_named (scope_at p t) uri local) e.attrs i attr place (is ∙ ap (λ (l : List Attr). get_or l i attr) are)

-- ---- the change

pub dropped_by : (u : Usage) (t e : Tree) (selector : Selector) (p : List ℕ) (uri local : List ℕ) (attr : Attr) (name : Name) (ats : List Attr)
    (sought : AttributeEdit) (found : Result ℕ EditRefusal) (result : Result Change EditRefusal)
    → selector.end ≡ ends.Attribute uri local → SelectsPath selector.steps t p → at p t ≡ Some e
    → find (is_attr_named (scope_at p t) uri local) e.attrs ≡ Some attr → name ≡ attr.name
    → ats ≡ without_attr name e.attrs → option_copied sought.value ≡ None
    → IsNewTagResultAt (record { usage = u; document = t; selector = selector }) p (with_attrs ats e) sought found → result ≡ allowed_change (DropAttr p name) found → IsDeletePlan u t selector result
dropped_by u t e selector p uri local attr name ats sought found result ends_so sel there that named without wanted h is =
    let after : List Attr → Tree = λ l. put_over p (with_attrs l e) t in
    let as_none = subst (λ (w : Option (List ℕ)). IsResultIfLawful (not_found_refusal w) (IsFoundAsSought selector (record { path = p; uri = sought.uri.now; local = sought.local.now }) (after ats) w) u (after ats) found) wanted h in
    let tested = subst (λ (l : List Attr). IsResultIfLawful CannotDelete (FindsNode (after l) selector → ⊥) u (after l) found) without as_none in
    let of_name : Name → Type 0 = λ n. IsCheckedIfLawful CannotDelete (FindsNothingAfter selector t (DropAttr p n)) (IsCheckedChange u t (DropAttr p n)) (allowed_change (DropAttr p n) found) in
    let plan = drop_plan u t e selector p uri local attr (allowed_change (DropAttr p attr.name) found) ends_so sel there that
    (subst of_name named (dropping_is u t e selector p name found there tested)) in
    subst (λ (r : Result Change EditRefusal). IsDeletePlan u t selector r) (sym (is ∙ ap (λ (n : Name). allowed_change (DropAttr p n) found) named)) plan
