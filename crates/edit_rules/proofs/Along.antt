-- Key steps select, in a proper tree with unique keys, the element whose marks along the path
-- they test.
use Rattle.std.proofs.Common.{◌≡◌, ℕ, List, [], ◌∷◌, Option, None, Some, slice_get, option_map, option_and_then, IsTrue, refl, sym, ap, ◌∙◌, subst, inl, inr}
use Rattle.std.specs.List.{AllByRecursion}
use Rattle.std.proofs.lemmas.Option.{same_Some}
use Rattle.std.proofs.lemmas.Bool.{cases_order}
use Rattle.node_select.specs.StepSelection.{IsAtPosition}
use Rattle.xml_tree.specs.Tree.{Tree, child_elements_of}
use Rattle.xml_tree.specs.Proper.{IsProperPart, IsProperTree}
use Rattle.xml_tree.proofs.EverywhereLaws.{Everywhere-child_element}
use Rattle.xml_tree.specs.TreeScopes.{inside}
use Rattle.node_select.specs.Selection.{is_named, is_tested, SelectsAmong, SelectsChild}
use Rattle.node_select.specs.declared.selector.Step.{Step}
use Rattle.usage_docs.specs.declared.schema_table.ElementKind.{ElementKind}
use Rattle.usage_docs.specs.declared.schema_table.Key.{Key}
use Rattle.usage_docs.specs.KeyAttributes.{key_of}
use Rattle.usage_docs.specs.SchemaTable.{Scope, kind_by_name, kind_of}
use Rattle.usage_docs.specs.UniqueKeys.{SiblingKey, sibling_key, sibling_key_at, sibling_key_of, RepeatsKeyAt}
use Rattle.edit_rules.specs.KeyAddresses.{HaveKindsOnPath, IsKeyStep}
use Rattle.edit_rules.proofs.Marks.{AskFor, AsksFor, marks_along}
use Rattle.edit_rules.proofs.KindWords.{kind_is_by, one_kind}
use Rattle.edit_rules.proofs.StepMarks.{mark_passes, mark_says, passed_name, passes_mark}

-- ---- marks along a path, one more element

two : (o : Option Tree) (row : ElementKind) (c : Scope) (p : List ℕ) (ms : List SiblingKey)
    → option_and_then (λ child_element. option_and_then (λ m. option_map (λ ns. m ∷ ns) (marks_along m.kind (inside c child_element) (child_elements_of child_element) p)) (sibling_key_of row c child_element)) o ≡ Some ms
    → (child_element : Tree) × ((m : SiblingKey) × ((rest : List SiblingKey) × ((o ≡ Some child_element) × (sibling_key_of row c child_element ≡ Some m) × (marks_along m.kind (inside c child_element) (child_elements_of child_element) p ≡ Some rest) × (ms ≡ m ∷ rest))))
two None row c p ms h = cc
two (Some child_element) row c p ms h = by (sibling_key_of row c child_element) refl h
  where
    more : (m : SiblingKey) (o : Option (List SiblingKey)) → sibling_key_of row c child_element ≡ Some m → marks_along m.kind (inside c child_element) (child_elements_of child_element) p ≡ o → option_map (λ ns. m ∷ ns) o ≡ Some ms
        → (k : Tree) × ((n : SiblingKey) × ((rest : List SiblingKey) × ((Some child_element ≡ Some k) × (sibling_key_of row c k ≡ Some n) × (marks_along n.kind (inside c k) (child_elements_of k) p ≡ Some rest) × (ms ≡ n ∷ rest))))
    more m None e f g = cc
    more m (Some rest) e f g = (child_element, (m, (rest, (refl, e, f, sym (same_Some (m ∷ rest) ms g)))))

    by : (x : Option SiblingKey) → sibling_key_of row c child_element ≡ x → option_and_then (λ m. option_map (λ ns. m ∷ ns) (marks_along m.kind (inside c child_element) (child_elements_of child_element) p)) x ≡ Some ms
        → (k : Tree) × ((n : SiblingKey) × ((rest : List SiblingKey) × ((Some child_element ≡ Some k) × (sibling_key_of row c k ≡ Some n) × (marks_along n.kind (inside c k) (child_elements_of k) p ≡ Some rest) × (ms ≡ n ∷ rest))))
    by None e g = cc
    by (Some m) e g = more m (marks_along m.kind (inside c child_element) (child_elements_of child_element) p) e refl g

pub marks_next : (row : ElementKind) (c : Scope) (child_elements : List Tree) (i : ℕ) (p : List ℕ) (child_element : Tree) (m : SiblingKey) → slice_get child_elements i ≡ Some child_element → sibling_key_of row c child_element ≡ Some m
    → marks_along row c child_elements (i ∷ p) ≡ option_map (λ ms. m ∷ ms) (marks_along m.kind (inside c child_element) (child_elements_of child_element) p)
marks_next row c child_elements i p child_element m there is =
    ap (option_and_then (λ k. option_and_then (λ n. option_map (λ ms. n ∷ ms) (marks_along n.kind (inside c k) (child_elements_of k) p)) (sibling_key_of row c k))) there
    ∙ ap (option_and_then (λ n. option_map (λ ms. n ∷ ms) (marks_along n.kind (inside c child_element) (child_elements_of child_element) p))) is

-- elements with marks have kinds
pub marks_have_kinds : (p : List ℕ) (row : ElementKind) (c : Scope) (child_elements : List Tree) (ms : List SiblingKey) → marks_along row c child_elements p ≡ Some ms → HaveKindsOnPath row c child_elements p
marks_have_kinds [] row c child_elements ms h = tt
marks_have_kinds (i ∷ p) row c child_elements ms h =
    let r = two (slice_get child_elements i) row c p ms h in
    let n = r.1.1.1 in
    (r.0, (r.1.0.kind, (n.0, (mark_says row c r.0 r.1.0 n.1).0, marks_have_kinds p r.1.0.kind (inside c r.0) (child_elements_of r.0) r.1.1.0 n.2)))

-- ---- one step

no_position : (o : Option ℕ) (n : ℕ) → o ≡ None → IsAtPosition o n
no_position None n h = tt
no_position (Some k) n h = cc

-- two siblings with the same mark are the same
twice : (row : ElementKind) (c : Scope) (child_elements : List Tree) (i k : ℕ) (m : SiblingKey) (key : Key) → ((p : List ℕ) (q : Key) → RepeatsKeyAt row c child_elements p q → ⊥) → sibling_key_at row c child_elements i ≡ Some m → sibling_key_at row c child_elements k ≡ Some m → key_of m.kind ≡ Some key → k ≡ i
twice row c child_elements i k m key unique a b of_key =
    elim (cases_order k i) [
      | inl same ↦ same
      | inr (inl less) ↦ absurd (unique (i ∷ []) key (record { shared = m; earlier = k; comes_first = less; that = b; this = a; by_key = of_key }))
      | inr (inr more) ↦ absurd (unique (k ∷ []) key (record { shared = m; earlier = i; comes_first = more; that = a; this = b; by_key = of_key }))
    ]

-- a proper content: the scope inside it, its children's tags
abbrev ProperKids : Scope → List Tree → Type 0
ProperKids c child_elements = (i : ℕ) (child_element : Tree) → slice_get child_elements i ≡ Some child_element → IsProperTree c child_element

selects_marked : (row : ElementKind) (c : Scope) (child_elements : List Tree) (i : ℕ) (child_element : Tree) (step : Step) (m : SiblingKey) → ProperKids c child_elements → ((p : List ℕ) (q : Key) → RepeatsKeyAt row c child_elements p q → ⊥)
    → AsksFor row step m → slice_get child_elements i ≡ Some child_element → sibling_key_of row c child_element ≡ Some m → SelectsChild c step child_elements i
selects_marked row c child_elements i child_element step m proper unique asks there is =
    let passed = mark_passes row c step m child_element asks is in record {
      this = record { child_element = child_element; there = there; is_named = passed.0; at_position = no_position step.position _ asks.anywhere; is_tested = passed.1 };
      alone = λ k other.
          twice row c child_elements i k m asks.key unique (ap (option_and_then (sibling_key_of row c)) there ∙ is)
          (ap (option_and_then (sibling_key_of row c)) other.there ∙ passes_mark row c step m other.child_element asks ((proper k other.child_element other.there).0) other.is_named other.is_tested) asks.of_key;
    }

-- ---- the steps along a path

kids_proper : (c : Scope) (child_element : Tree) → IsProperTree c child_element → ProperKids (inside c child_element) (child_elements_of child_element)
kids_proper c child_element proper i k there = Everywhere-child_element IsProperPart (inside c child_element) i child_element.content k there proper.1

pub root_kids_proper : (t : Tree) → IsProperTree [] t → ProperKids (t.decls ∷ []) (child_elements_of t)
root_kids_proper t proper i k there = Everywhere-child_element IsProperPart (t.decls ∷ []) i t.content k there proper.1

unique_below : (row : ElementKind) (c : Scope) (child_elements : List Tree) (i : ℕ) (child_element : Tree) (kind : ElementKind) → slice_get child_elements i ≡ Some child_element → kind_of row (inside c child_element) child_element.name ≡ Some kind → ((p : List ℕ) (q : Key) → RepeatsKeyAt row c child_elements p q → ⊥)
    → (p : List ℕ) (q : Key) → RepeatsKeyAt kind (inside c child_element) (child_elements_of child_element) p q → ⊥
unique_below row c child_elements i child_element kind there of_kind unique [] q r = r
unique_below row c child_elements i child_element kind there of_kind unique (n ∷ p) q r = unique (i ∷ n ∷ p) q (child_element, (kind, (there, of_kind, r)))

-- an element with the marks that the steps test is selected
pub marks_select : (p : List ℕ) (row : ElementKind) (c : Scope) (child_elements : List Tree) (steps : List Step) (ms : List SiblingKey) → ProperKids c child_elements → ((q : List ℕ) (key : Key) → RepeatsKeyAt row c child_elements q key → ⊥)
    → AskFor row steps ms → marks_along row c child_elements p ≡ Some ms → SelectsAmong c child_elements steps p
marks_select [] row c child_elements [] ms proper unique ask h = tt
marks_select [] row c child_elements (s ∷ steps) [] proper unique ask h = ask
marks_select [] row c child_elements (s ∷ steps) (m ∷ ms) proper unique ask h = cc
marks_select (i ∷ p) row c child_elements [] [] proper unique ask h = let r = two (slice_get child_elements i) row c p [] h in let e = r.1.1.1.3 in cc
marks_select (i ∷ p) row c child_elements [] (m ∷ ms) proper unique ask h = absurd ask
marks_select (i ∷ p) row c child_elements (s ∷ steps) [] proper unique ask h = absurd ask
marks_select (i ∷ p) row c child_elements (s ∷ steps) (m ∷ ms) proper unique ask h =
    let r = two (slice_get child_elements i) row c p (m ∷ ms) h in
    let child_element = r.0 in
    let n = r.1.1.1 in
    let first : m ≡ r.1.0 = cons_first m r.1.0 ms r.1.1.0 n.3 in
    let rest : ms ≡ r.1.1.0 = cons_rest m r.1.0 ms r.1.1.0 n.3 in
    let is : sibling_key_of row c child_element ≡ Some m = n.1 ∙ ap Some (sym first) in
    let below : marks_along m.kind (inside c child_element) (child_elements_of child_element) p ≡ Some ms = ap (λ (x : SiblingKey). marks_along x.kind (inside c child_element) (child_elements_of child_element) p) first ∙ n.2 ∙ ap Some (sym rest) in (
      selects_marked row c child_elements i child_element s m proper unique ask.0 n.0 is,
      (
        child_element,
        n.0,
        marks_select p m.kind (inside c child_element) (child_elements_of child_element) steps ms (kids_proper c child_element (proper i child_element n.0)) (unique_below row c child_elements i child_element m.kind n.0 (mark_says row c child_element m is).0 unique) ask.1 below,
      ),
    )
  where
    cons_first : {A : Type 0} (x y : A) (xs ys : List A) → x ∷ xs ≡ y ∷ ys → x ≡ y
    cons_first x y xs ys e = cc

    cons_rest : {A : Type 0} (x y : A) (xs ys : List A) → x ∷ xs ≡ y ∷ ys → xs ≡ ys
    cons_rest x y xs ys e = cc

-- ---- key steps test the marks of what they select

-- what a key step tests below an element of this kind, where the child that it selects has a kind
-- there
asks_here : (row : ElementKind) (c : Scope) (child_element : Tree) (kind : ElementKind) (step : Step) → IsKeyStep step → kind_of row (inside c child_element) child_element.name ≡ Some kind → IsTrue (is_named c step child_element) → (m : SiblingKey) × ((m.kind ≡ kind) × AsksFor row step m)
asks_here row c child_element kind step is of_kind named =
    let name = passed_name c step child_element is.uri is.local is.by_name named in
    let here : kind_by_name row is.uri is.local ≡ Some kind = sym (ap (λ s. kind_by_name row s child_element.name.local) name.0 ∙ ap (kind_by_name row is.uri) name.1) ∙ sym (kind_is_by row (inside c child_element) child_element.name) ∙ of_kind in
    let same : is.kind ≡ kind = one_kind is.row row is.uri is.local is.kind kind is.of_kind here in (
      sibling_key is.kind is.value,
      (
        same,
        record { key = is.key; uri = is.uri; local = is.local; by_name = is.by_name; of_kind = here ∙ ap Some (sym same); of_key = is.of_key; anywhere = is.anywhere; by_key = is.by_key },
      ),
    )

pub steps_ask : (p : List ℕ) (row : ElementKind) (c : Scope) (child_elements : List Tree) (steps : List Step) → ProperKids c child_elements → AllByRecursion IsKeyStep steps → HaveKindsOnPath row c child_elements p → SelectsAmong c child_elements steps p
    → (ms : List SiblingKey) × (AskFor row steps ms × (marks_along row c child_elements p ≡ Some ms))
steps_ask [] row c child_elements [] proper are kinds h = ([], (tt, refl))
steps_ask [] row c child_elements (s ∷ steps) proper are kinds h = absurd h
steps_ask (i ∷ p) row c child_elements [] proper are kinds h = absurd h
steps_ask (i ∷ p) row c child_elements (s ∷ steps) proper are kinds h =
    let child_element = kinds.0 in
    let kind = kinds.1.0 in
    let k = kinds.1.1 in
    let one = h.0.this in
    let same : one.child_element ≡ child_element = same_Some one.child_element child_element (sym one.there ∙ k.0) in
    let also : h.1.0 ≡ child_element = same_Some h.1.0 child_element (sym h.1.1 ∙ k.0) in
    let named : IsTrue (is_named c s child_element) = subst (λ (x : Tree). IsTrue (is_named c s x)) same one.is_named in
    let tested : IsTrue (is_tested c s child_element) = subst (λ (x : Tree). IsTrue (is_tested c s x)) same one.is_tested in
    let asks = asks_here row c child_element kind s are.0 k.1 named in
    let m = asks.0 in
    let kids_here : HaveKindsOnPath m.kind (inside c child_element) (child_elements_of child_element) p = subst (λ (x : ElementKind). HaveKindsOnPath x (inside c child_element) (child_elements_of child_element) p) (sym asks.1.0) k.2 in
    let rest = steps_ask p m.kind (inside c child_element) (child_elements_of child_element) steps (kids_proper c child_element (proper i child_element k.0)) are.1 kids_here (subst (λ (x : Tree). SelectsAmong (inside c x) (child_elements_of x) steps p) also h.1.2) in
    let is = passes_mark row c s m child_element asks.1.1 ((proper i child_element k.0).0) named tested in
    (m ∷ rest.0, ((asks.1.1, rest.1.0), marks_next row c child_elements i p child_element m k.0 is ∙ ap (option_map (λ ms. m ∷ ms)) rest.1.1))
