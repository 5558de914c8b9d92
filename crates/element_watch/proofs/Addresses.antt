-- The test of key addresses holds exactly for them.
use Rattle.std.proofs.Common.{◌≡◌, ◌↔◌, ℕ, Bool, true, false, List, [], ◌∷◌, Option, None, Some, is_none, slice_get, IsTrue, refl, sym, ap, ◌∙◌, subst}
use Rattle.std.specs.Prelude.{◌&&◌}
use Rattle.std.specs.List.{AllByRecursion}
use Rattle.std.specs.Option.{option_map_or}
use Rattle.std.specs.Str.{bytes_eq}
use Rattle.std.proofs.lemmas.Option.{same_Some}
use Rattle.std.proofs.lemmas.Slice.Eq.{bytes_eq-Decides}
use Rattle.xml_tree.specs.Tree.{Tree, child_elements_of}
use Rattle.xml_names.specs.ExpandedNames.{element_name}
use Rattle.node_select.specs.Names.{uri_or_empty}
use Rattle.node_select.specs.Selection.{is_named, SelectsAmong, SelectsChild, SelectsPath}
use Rattle.node_select.specs.declared.selector.NameTest.{NameTest}
use Rattle.node_select.specs.declared.selector.NameTest.TheVariants.{Any, Named}
use Rattle.node_select.specs.declared.selector.AttrTest.{AttrTest}
use Rattle.node_select.specs.declared.selector.End.{End}
use Rattle.node_select.specs.declared.selector.End.TheVariants as ends
use Rattle.node_select.specs.declared.selector.Selector.{Selector}
use Rattle.node_select.specs.declared.selector.Step.{Step}
use Rattle.doc_names.specs.declared.usages.Usage.{Usage}
use Rattle.usage_docs.specs.declared.schema_table.ElementKind.{ElementKind}
use Rattle.usage_docs.specs.declared.schema_table.Key.{Key}
use Rattle.usage_docs.specs.SchemaTable.{Scope, kind_by_name, kind_of, root_kind}
use Rattle.usage_docs.specs.KeyAttributes.{key_of, attribute_name}
use Rattle.xml_tree.specs.TreeScopes.{inside}
use Rattle.edit_rules.specs.KeyAddresses.{AreKeySteps, HaveKindsOnPath, IsKeyAddressOf, IsKeyStep, root_step}
use Rattle.element_watch.specs.inner.KeyAddresses.{are_key_steps, are_key_steps_along, ends_in_element, has_name, is_key_address, is_name_alone, is_key_step, tests_key, tests_key_of}
use Rattle.edit_rules.proofs.KindWords.{kind_is_by, one_kind}
use Rattle.edit_rules.proofs.StepMarks.{passed_name}

both : (a b : Bool) → (a && b) ≡ true → (a ≡ true) × (b ≡ true)
both true b h = (refl, h)
both false b h = cc

and_true : (a b : Bool) → a ≡ true → b ≡ true → (a && b) ≡ true
and_true true b h g = g
and_true false b h g = cc

three : (a b c : Bool) → (a && b && c) ≡ true → (a ≡ true) × (b ≡ true) × (c ≡ true)
three true true true h = (refl, refl, refl)
three true true false h = cc
three true false c h = cc
three false b c h = cc

all_three : (a b c : Bool) → a ≡ true → b ≡ true → c ≡ true → (a && b && c) ≡ true
all_three true true true a b c = refl
all_three true true false a b c = cc
all_three true false c a b d = cc
all_three false b c a d e = cc

name_of : (test : NameTest) → has_name test ≡ true → (uri : List ℕ) × ((local : List ℕ) × (test ≡ Named uri local))
name_of Any h = cc
name_of (Named uri local) h = (uri, (local, refl))

none_of : {A : Type 0} (o : Option A) → is_none o ≡ true → o ≡ None
none_of None h = refl
none_of (Some x) h = cc

-- ---- one step

-- a test of the key of a kind
key_tested : (kind : ElementKind) (o : Option AttrTest) → tests_key_of kind o ≡ true → (key : Key) × ((value : List ℕ) × ((key_of kind ≡ Some key) × (o ≡ Some (record { uri = []; local = attribute_name key; value = value }))))
key_tested kind None h = cc
key_tested kind (Some test) h = by (key_of kind) refl h
  where
    tested : (key : Key) → tests_key key test ≡ true → Some test ≡ Some (record { uri = []; local = attribute_name key; value = test.value })
    tested key h =
        let r = both (bytes_eq test.uri []) (bytes_eq test.local (attribute_name key)) h in
        ap (λ (x : List ℕ). Some (record test { uri = x })) ((bytes_eq-Decides test.uri []).0 r.0) ∙ ap (λ (x : List ℕ). Some (record { uri = []; local = x; value = test.value })) ((bytes_eq-Decides test.local (attribute_name key)).0 r.1)

    by : (k : Option Key) → key_of kind ≡ k → option_map_or (λ key. tests_key key test) k false ≡ true
        → (key : Key) × ((value : List ℕ) × ((key_of kind ≡ Some key) × (Some test ≡ Some (record { uri = []; local = attribute_name key; value = value }))))
    by None e g = cc
    by (Some key) e g = (key, (test.value, (e, tested key g)))

tests_it : (kind : ElementKind) (key : Key) (value : List ℕ) (o : Option AttrTest) → key_of kind ≡ Some key → o ≡ Some (record { uri = []; local = attribute_name key; value = value }) → tests_key_of kind o ≡ true
tests_it kind key value o k is =
    ap (tests_key_of kind) is ∙ ap (λ x. option_map_or (λ y. tests_key y (record { uri = []; local = attribute_name key; value = value })) x false) k
    ∙ and_true (bytes_eq [] []) (bytes_eq (attribute_name key) (attribute_name key)) refl ((bytes_eq-Decides (attribute_name key) (attribute_name key)).1 refl)

module _ (row : ElementKind) (c : Scope) (child_element : Tree) (kind : ElementKind) (step : Step) (of_kind : kind_of row (inside c child_element) child_element.name ≡ Some kind) (named : IsTrue (is_named c step child_element)) where
  -- a name that the child has is its kind's
  its_kind : (uri local : List ℕ) → step.name ≡ Named uri local → kind_by_name row uri local ≡ Some kind
  its_kind uri local is =
      let name = passed_name c step child_element uri local is named in
      sym (ap (λ s. kind_by_name row s child_element.name.local) name.0 ∙ ap (kind_by_name row uri) name.1) ∙ sym (kind_is_by row (inside c child_element) child_element.name) ∙ of_kind

  step_to : is_key_step kind step ≡ true → IsKeyStep step
  step_to h =
      let r = three (has_name step.name) (is_none step.position) (tests_key_of kind step.test) h in
      let name = name_of step.name r.0 in
      let key = key_tested kind step.test r.2 in record {
        row = row;
        kind = kind;
        key = key.0;
        uri = name.0;
        local = name.1.0;
        value = key.1.0;
        by_name = name.1.1;
        of_kind = its_kind name.0 name.1.0 name.1.1;
        of_key = key.1.1.0;
        anywhere = none_of step.position r.1;
        by_key = key.1.1.1;
      }

  step_from : IsKeyStep step → is_key_step kind step ≡ true
  step_from s =
      let same : s.kind ≡ kind = one_kind s.row row s.uri s.local s.kind kind s.of_kind (its_kind s.uri s.local s.by_name) in
      all_three (has_name step.name) (is_none step.position) (tests_key_of kind step.test) (ap has_name s.by_name) (ap is_none s.anywhere) (tests_it kind s.key s.value step.test (ap key_of (sym same) ∙ s.of_key) s.by_key)

-- ---- the steps along a path

there_if : (o : Option Tree) (F : Tree → Bool) → option_map_or F o false ≡ true → (child_element : Tree) × ((o ≡ Some child_element) × (F child_element ≡ true))
there_if None F h = cc
there_if (Some child_element) F h = (child_element, (refl, h))

kind_if : (o : Option ElementKind) (F : ElementKind → Bool) → option_map_or F o false ≡ true → (kind : ElementKind) × ((o ≡ Some kind) × (F kind ≡ true))
kind_if None F h = cc
kind_if (Some kind) F h = (kind, (refl, h))

-- the child that a step selects passes its name test
selected_named : (c : Scope) (step : Step) (child_elements : List Tree) (i : ℕ) (child_element : Tree) → SelectsChild c step child_elements i → slice_get child_elements i ≡ Some child_element → IsTrue (is_named c step child_element)
selected_named c step child_elements i child_element h there = let one = h.this in subst (λ (x : Tree). IsTrue (is_named c step x)) (same_Some one.child_element child_element (sym one.there ∙ there)) one.is_named

rest_selected : (c : Scope) (child_elements : List Tree) (i : ℕ) (child_element : Tree) (step : Step) (steps : List Step) (p : List ℕ) → SelectsAmong c child_elements (step ∷ steps) (i ∷ p) → slice_get child_elements i ≡ Some child_element → SelectsAmong (inside c child_element) (child_elements_of child_element) steps p
rest_selected c child_elements i child_element step steps p h there = subst (λ (x : Tree). SelectsAmong (inside c x) (child_elements_of x) steps p) (same_Some h.1.0 child_element (sym h.1.1 ∙ there)) h.1.2

along_to : (p : List ℕ) (row : ElementKind) (c : Scope) (child_elements : List Tree) (steps : List Step) → SelectsAmong c child_elements steps p → are_key_steps_along row c child_elements steps p ≡ true → AllByRecursion IsKeyStep steps × HaveKindsOnPath row c child_elements p
along_to [] row c child_elements [] sel h = (tt, tt)
along_to [] row c child_elements (s ∷ steps) sel h = absurd sel
along_to (i ∷ p) row c child_elements [] sel h = absurd sel
along_to (i ∷ p) row c child_elements (s ∷ steps) sel h =
    let k = there_if (slice_get child_elements i) _ h in
    let child_element = k.0 in
    let n = kind_if (kind_of row (inside c child_element) child_element.name) _ k.1.1 in
    let kind = n.0 in
    let b = both (is_key_step kind s) (are_key_steps_along kind (inside c child_element) (child_elements_of child_element) steps p) n.1.1 in
    let rest = along_to p kind (inside c child_element) (child_elements_of child_element) steps (rest_selected c child_elements i child_element s steps p sel k.1.0) b.1 in
    ((step_to row c child_element kind s n.1.0 (selected_named c s child_elements i child_element sel.0 k.1.0) b.0, rest.0), (child_element, (kind, (k.1.0, n.1.0, rest.1))))

along_from : (p : List ℕ) (row : ElementKind) (c : Scope) (child_elements : List Tree) (steps : List Step) → SelectsAmong c child_elements steps p → AllByRecursion IsKeyStep steps → HaveKindsOnPath row c child_elements p → are_key_steps_along row c child_elements steps p ≡ true
along_from [] row c child_elements steps sel are kinds = refl
along_from (i ∷ p) row c child_elements [] sel are kinds = refl
along_from (i ∷ p) row c child_elements (s ∷ steps) sel are kinds =
    let child_element = kinds.0 in
    let kind = kinds.1.0 in
    let k = kinds.1.1 in
    ap (λ o. option_map_or (λ x. option_map_or (λ y. is_key_step y s && are_key_steps_along y (inside c x) (child_elements_of x) steps p) (kind_of row (inside c x) x.name) false) o false) k.0
    ∙ ap (λ o. option_map_or (λ y. is_key_step y s && are_key_steps_along y (inside c child_element) (child_elements_of child_element) steps p) o false) k.1
    ∙ and_true (is_key_step kind s) (are_key_steps_along kind (inside c child_element) (child_elements_of child_element) steps p) (step_from row c child_element kind s k.1 (selected_named c s child_elements i child_element sel.0 k.0) are.0)
    (along_from p kind (inside c child_element) (child_elements_of child_element) steps (rest_selected c child_elements i child_element s steps p sel k.0) are.1 k.2)

-- ---- the root

root_is : (t : Tree) (step : Step) → SelectsChild [] step (t ∷ []) 0 → is_name_alone step ≡ true → step ≡ root_step t
root_is t step sel h =
    let r = three (has_name step.name) (is_none step.position) (is_none step.test) h in
    let name = name_of step.name r.0 in
    let passed = passed_name [] step t name.0 name.1.0 name.1.1 (selected_named [] step (t ∷ []) 0 t sel refl) in
    ap (λ (o : Option ℕ). record step { position = o }) (none_of step.position r.1)
    ∙ ap (λ (o : Option AttrTest). record { name = step.name; position = None; test = o }) (none_of step.test r.2)
    ∙ ap (λ (n : NameTest). record { name = n; position = None; test = None }) (name.1.1 ∙ ap (λ x. Named x name.1.0) (sym passed.0) ∙ ap (Named (uri_or_empty (element_name (t.decls ∷ []) t.name))) (sym passed.1))

steps_to : (u : Usage) (t : Tree) (steps : List Step) (p : List ℕ) → SelectsPath steps t p → are_key_steps u t steps p ≡ true → AreKeySteps t steps × HaveKindsOnPath (root_kind u) (t.decls ∷ []) (child_elements_of t) p
steps_to u t [] p sel h = cc
steps_to u t (first ∷ later) p sel h =
    let b = both (is_name_alone first) (are_key_steps_along (root_kind u) (t.decls ∷ []) (child_elements_of t) later p) h in
    let r = along_to p (root_kind u) (t.decls ∷ []) (child_elements_of t) later (rest_selected [] (t ∷ []) 0 t first later p sel refl) b.1 in
    ((root_is t first sel.0 b.0, r.0), r.1)

steps_from : (u : Usage) (t : Tree) (steps : List Step) (p : List ℕ) → SelectsPath steps t p → AreKeySteps t steps → HaveKindsOnPath (root_kind u) (t.decls ∷ []) (child_elements_of t) p → are_key_steps u t steps p ≡ true
steps_from u t [] p sel are kinds = absurd are
steps_from u t (first ∷ later) p sel are kinds =
    and_true (is_name_alone first) (are_key_steps_along (root_kind u) (t.decls ∷ []) (child_elements_of t) later p) (ap is_name_alone are.0)
    (along_from p (root_kind u) (t.decls ∷ []) (child_elements_of t) later (rest_selected [] (t ∷ []) 0 t first later p sel refl) are.1 kinds)

ends_to : (end : End) → ends_in_element end ≡ true → end ≡ ends.Element
ends_to ends.Element h = refl
ends_to (ends.Attribute uri local) h = cc
ends_to ends.Namespaces h = cc

pub address_is : (u : Usage) (t : Tree) (selector : Selector) (p : List ℕ) → SelectsPath selector.steps t p → IsTrue (is_key_address u t selector p) ↔ IsKeyAddressOf u t selector p
address_is u t selector p sel = (
  λ h. let b = both (ends_in_element selector.end) (are_key_steps u t selector.steps p) h in
      let r = steps_to u t selector.steps p sel b.1 in
      record { ends = ends_to selector.end b.0; steps = r.0; kinds = r.1 },
  λ a. and_true (ends_in_element selector.end) (are_key_steps u t selector.steps p) (ap ends_in_element a.ends) (steps_from u t selector.steps p sel a.steps a.kinds),
)
