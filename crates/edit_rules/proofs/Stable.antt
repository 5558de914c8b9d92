-- The selection of a key address, before and after a change, in both directions.
use Rattle.std.proofs.Common.{◌≡◌, ℕ, zero, suc, List, [], ◌∷◌, Option, Some, slice_get, IsTrue, refl, sym, ap, ◌∙◌, subst}
use Rattle.std.specs.List.{AllByRecursion}
use Rattle.std.proofs.lemmas.Option.{same_Some}
use Rattle.xml_tree.specs.Tree.{Tree, child_elements_of}
use Rattle.xml_names.specs.ExpandedNames.{element_name}
use Rattle.xml_tree.specs.Proper.{IsProperTree}
use Rattle.xml_names.specs.declared.names.Decl.{Decl}
use Rattle.xml_names.specs.declared.names.Name.{Name}
use Rattle.xml_tree.specs.TreeScopes.{inside}
use Rattle.node_select.specs.Selection.{some_attr_passes, is_named, passes_name_test, SelectsAmong, SelectsChild, SelectsPath}
use Rattle.node_select.specs.declared.selector.Step.{Step}
use Rattle.node_select.specs.declared.selector.Selector.{Selector}
use Rattle.doc_names.specs.declared.usages.Usage.{Usage}
use Rattle.usage_docs.specs.SchemaTable.{root_kind}
use Rattle.usage_docs.specs.UniqueKeys.{SiblingKey, HasUniqueKeys}
use Rattle.edit_ops.specs.declared.change.Change.{Change}
use Rattle.edit_ops.specs.Changes.{FitsTree, edited}
use Rattle.edit_ops.specs.MovedPaths.{moved}
use Rattle.edit_rules.specs.KeyAddresses.{AreKeySteps, HaveKindsOnPath, IsKeyAddressOf, IsKeyStep, IsProperWithUniqueKeys, root_step}
use Rattle.edit_rules.proofs.Marks.{AskFor, marks_along}
use Rattle.edit_rules.specs.KeyWrites.{WritesKeyOnPath}
use Rattle.edit_rules.proofs.Along.{marks_have_kinds, marks_select, root_kids_proper, steps_ask}
use Rattle.edit_rules.proofs.MovedMarks.{marks_moved, root_kept}

-- the marks along a path of a document
abbrev pub marks_at : Usage → Tree → List ℕ → Option (List SiblingKey)
marks_at u t p = marks_along (root_kind u) (t.decls ∷ []) (child_elements_of t) p

-- each root of the same name in the same scope passes the first step
root_step_same : (t new : Tree) → new.name ≡ t.name → new.decls ≡ t.decls → root_step t ≡ root_step new
root_step_same t new name decls =
    ap (λ (n : Name). root_step (record t { name = n })) (sym name) ∙ ap (λ (ds : List Decl). root_step (record t { name = new.name; decls = ds })) (sym decls)

only_zero : (x y : Tree) (k : ℕ) → slice_get (x ∷ []) k ≡ Some y → k ≡ 0
only_zero x y zero h = refl
only_zero x y (suc k) h = cc

named_same : (step : Step) (t new : Tree) → new.name ≡ t.name → new.decls ≡ t.decls → IsTrue (is_named [] step t) → IsTrue (is_named [] step new)
named_same step t new name decls h =
    ap (λ (n : Name). passes_name_test step.name (element_name (new.decls ∷ []) n)) name ∙ ap (λ (ds : List Decl). passes_name_test step.name (element_name (ds ∷ []) t.name)) decls ∙ h

root_selected : (step : Step) (t new : Tree) → step ≡ root_step t → new.name ≡ t.name → new.decls ≡ t.decls → SelectsChild [] step (t ∷ []) 0 → SelectsChild [] step (new ∷ []) 0
root_selected step t new is name decls h =
    let m = h.this in
    let same : m.child_element ≡ t = sym (same_Some t m.child_element m.there) in record {
      this = record {
        child_element = new;
        there = refl;
        is_named = named_same step t new name decls (subst (λ (x : Tree). IsTrue (is_named [] step x)) same m.is_named);
        at_position = m.at_position;
        is_tested = ap (λ (s : Step). some_attr_passes (inside [] new) s.test new.attrs) is;
      };
      alone = λ k other. only_zero new other.child_element k other.there;
    }

-- the steps test the marks along a path that they select
asked : (u : Usage) (t : Tree) (p : List ℕ) (first : Step) (later : List Step) → IsProperTree [] t → AllByRecursion IsKeyStep later → HaveKindsOnPath (root_kind u) (t.decls ∷ []) (child_elements_of t) p → SelectsPath (first ∷ later) t p
    → (ms : List SiblingKey) × (AskFor (root_kind u) later ms × (marks_at u t p ≡ Some ms))
asked u t p first later proper are kinds h =
    let same : h.1.0 ≡ t = sym (same_Some t h.1.0 h.1.1) in
    steps_ask p (root_kind u) (t.decls ∷ []) (child_elements_of t) later (root_kids_proper t proper) are kinds (subst (λ (x : Tree). SelectsAmong (inside [] x) (child_elements_of x) later p) same h.1.2)

-- from one document to another: where the root's tag is the same except its attributes, and the
-- marks along the paths are the same
carried : (u : Usage) (t new : Tree) (steps : List Step) (p q : List ℕ) → IsProperTree [] t → HasUniqueKeys u new → IsProperTree [] new → new.name ≡ t.name → new.decls ≡ t.decls → marks_at u new q ≡ marks_at u t p
    → AreKeySteps t steps → HaveKindsOnPath (root_kind u) (t.decls ∷ []) (child_elements_of t) p → SelectsPath steps t p
    → SelectsPath steps new q × AreKeySteps new steps × HaveKindsOnPath (root_kind u) (new.decls ∷ []) (child_elements_of new) q
carried u t new [] p q proper unique proper' name decls marks are kinds h = absurd are
carried u t new (first ∷ later) p q proper unique proper' name decls marks are kinds h =
    let a = asked u t p first later proper are.1 kinds h in
    let there = marks ∙ a.1.1 in (
      (root_selected first t new are.0 name decls h.0, (new, refl, marks_select q (root_kind u) (new.decls ∷ []) (child_elements_of new) later a.0 (root_kids_proper new proper') unique a.1.0 there)),
      (are.0 ∙ root_step_same t new name decls, are.1),
      marks_have_kinds q (root_kind u) (new.decls ∷ []) (child_elements_of new) a.0 there,
    )

marks_in_scope : (u : Usage) (t : Tree) (p : List ℕ) (change : Change) (q : List ℕ) → FitsTree t change → moved p change ≡ Some q → (WritesKeyOnPath u t p change → ⊥) → marks_at u (edited t change) q ≡ marks_at u t p
marks_in_scope u t p change q fits is free =
    ap (λ (ds : List Decl). marks_along (root_kind u) (ds ∷ []) (child_elements_of (edited t change)) q) (root_kept t p change q fits is).1 ∙ marks_moved u t p change q fits is free

pub after_change : (u : Usage) (t : Tree) (change : Change) (selector : Selector) (p q : List ℕ) → IsProperWithUniqueKeys u t → FitsTree t change → IsProperWithUniqueKeys u (edited t change) → IsKeyAddressOf u t selector p → SelectsPath selector.steps t p
    → moved p change ≡ Some q → (WritesKeyOnPath u t p change → ⊥) → SelectsPath selector.steps (edited t change) q × IsKeyAddressOf u (edited t change) selector q
after_change u t change selector p q sound fits sound' address h is free =
    let root = root_kept t p change q fits is in
    let r = carried u t (edited t change) selector.steps p q sound.proper sound'.unique sound'.proper root.0 root.1 (marks_in_scope u t p change q fits is free) address.steps address.kinds h in
    (r.0, record { ends = address.ends; steps = r.1; kinds = r.2 })

pub before_change : (u : Usage) (t : Tree) (change : Change) (selector : Selector) (p q : List ℕ) → IsProperWithUniqueKeys u t → FitsTree t change → IsProperWithUniqueKeys u (edited t change) → IsKeyAddressOf u (edited t change) selector q → SelectsPath selector.steps (edited t change) q
    → moved p change ≡ Some q → (WritesKeyOnPath u t p change → ⊥) → SelectsPath selector.steps t p × IsKeyAddressOf u t selector p
before_change u t change selector p q sound fits sound' address h is free =
    let root = root_kept t p change q fits is in
    let r = carried u (edited t change) t selector.steps q p sound'.proper sound.unique sound.proper (sym root.0) (sym root.1) (sym (marks_in_scope u t p change q fits is free)) address.steps address.kinds h in
    (r.0, record { ends = address.ends; steps = r.1; kinds = r.2 })
