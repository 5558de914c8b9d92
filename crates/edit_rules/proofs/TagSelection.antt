-- What steps select once an element has other attributes, and what a name of an attribute finds
-- there.
use Rattle.std.proofs.Common.{◌≡◌, ◌≢◌, ◌↔◌, ◌⊎◌, inl, inr, ℕ, zero, suc, ◌<◌, Bool, true, false, cond, List, [], ◌∷◌, ◌++◌, map, set, find, Option, Some, None, IsSome, option_map, slice_get, IsTrue, refl, sym, ap, ◌∙◌, subst, arith}
use Rattle.std.specs.List.{list_any}
use Rattle.std.proofs.lemmas.Bool.{cases_order}
use Rattle.std.proofs.lemmas.Option.{same_Some}
use Rattle.node_select.specs.StepSelection.{StepTests, Matches, Selects}
use Rattle.node_select.proofs.EditedSelection.{replaced}
use Rattle.node_select.proofs.SelectionAgreement.{match_alike}
use Rattle.xml_tree.specs.Tree.{Tree, child_elements_of, at}
use Rattle.xml_tree.specs.Edits.{change_at, change_child, put_over}
use Rattle.xml_tree.specs.TreeScopes.{scope_at, inside}
use Rattle.xml_names.specs.declared.names.Decl.{Decl}
use Rattle.xml_names.specs.declared.names.Attr.{Attr}
use Rattle.xml_tree.proofs.PlaceLaws.{at-changed, at-put_over, change_at-append}
use Rattle.xml_tree.proofs.TreeScopeLemmas.{scope_at-below}
use Rattle.node_select.specs.declared.selector.Step.{Step}
use Rattle.node_select.specs.declared.selector.End.TheVariants as ends
use Rattle.node_select.specs.declared.selector.Selector.{Selector}
use Rattle.node_select.specs.Selection.{is_attr_named, is_named, is_tested, step_tests, has_end, FindsNode, SelectsChild, SelectsPath}
use Rattle.node_select.proofs.Along.{last_step_to, one_path}
use Rattle.edit_rules.specs.AttributePuts.{FindsValue}
use Rattle.edit_rules.specs.StartTags.{with_attrs}
use Rattle.edit_rules.specs.inner.TestedValues.{tested_value}
use Rattle.edit_rules.proofs.Places.{scope_at_kid}
use Rattle.edit_rules.proofs.RemovedElements.{split_end, no_shorter}
use Rattle.edit_rules.proofs.StaysSelected.{child_elements-over, last_step_after, lawful_over, scope_stays, stays_selected}

-- ---- a child replaced by one with the same name: no other child is selected then

get_set_other : {A : Type 0} (xs : List A) (j : ℕ) (new : A) (k : ℕ) → k ≢ j → slice_get (set xs j new) k ≡ slice_get xs k
get_set_other [] j new k ne = refl
get_set_other (x ∷ xs) zero new zero ne = absurd (ne refl)
get_set_other (x ∷ xs) zero new (suc k) ne = refl
get_set_other (x ∷ xs) (suc j) new zero ne = refl
get_set_other (x ∷ xs) (suc j) new (suc k) ne = get_set_other xs j new k (λ s. ne (ap suc s))

get_set_here : {A : Type 0} (xs : List A) (j : ℕ) (old new : A) → slice_get xs j ≡ Some old → slice_get (set xs j new) j ≡ Some new
get_set_here [] j old new there = cc
get_set_here (x ∷ xs) zero old new there = refl
get_set_here (x ∷ xs) (suc j) old new there = get_set_here xs j old new there

map_set : {A B : Type 0} (p : A → B) (xs : List A) (j : ℕ) (old new : A) → slice_get xs j ≡ Some old → p new ≡ p old → map p (set xs j new) ≡ map p xs
map_set p [] j old new there same = cc
map_set p (x ∷ xs) zero old new there same = ap (λ b. b ∷ map p xs) (same ∙ ap p (sym (same_Some x old there)))
map_set p (x ∷ xs) (suc j) old new there same = ap (λ bs. p x ∷ bs) (map_set p xs j old new there same)

-- the tests of a step without that of attributes
abbrev any_attrs : {A : Type 0} → StepTests A → StepTests A
any_attrs step = record { named = step.named; position = step.position; tested = λ _. true }

pub only_here : {A : Type 0} (step : StepTests A) (child_elements : List A) (j : ℕ) (old new : A) (k : ℕ) → slice_get child_elements j ≡ Some old → step.named new ≡ step.named old → Selects step child_elements j → Matches step (set child_elements j new) k → k ≡ j
only_here {A = A} step child_elements j old new k there same s m = by (cases_order k j)
  where
    other : k ≢ j → k ≡ j
    other ne =
        let plain : Matches (any_attrs step) (set child_elements j new) k = record { child_element = m.child_element; there = m.there; is_named = m.is_named; at_position = m.at_position; is_tested = refl } in
        let was = (match_alike (any_attrs step) (any_attrs step) (set child_elements j new) child_elements k (record { same_position = refl; same_named = map_set step.named child_elements j old new there same; same_tested = map_set (λ (x : A). true) child_elements j old new there refl })).0 plain in
        s.alone k (record { child_element = m.child_element; there = sym (get_set_other child_elements j new k ne) ∙ m.there; is_named = m.is_named; at_position = was.at_position; is_tested = m.is_tested })

    by : (k ≡ j) ⊎ ((k < j) ⊎ (j < k)) → k ≡ j
    by (inl is) = is
    by (inr (inl lt)) = other (λ e. absurd (omega arith))
    by (inr (inr lt)) = other (λ e. absurd (omega arith))

-- ---- a name of an attribute

pub any_found : {A : Type 0} (p : A → Bool) (xs : List A) → IsTrue (list_any p xs) → (x : A) × (find p xs ≡ Some x)
any_found p [] h = cc
any_found {A = A} p (x ∷ xs) h = by (p x) refl (any_found p xs)
  where
    by : (b : Bool) → p x ≡ b → (IsTrue (list_any p xs) → (y : A) × (find p xs ≡ Some y)) → (y : A) × (find p (x ∷ xs) ≡ Some y)
    by true e rest = (x, rw e refl)
    by false e rest = let r = rest (rw e at h) in (r.0, rw e r.1)

pub found_any : {A : Type 0} (p : A → Bool) (xs : List A) (x : A) → find p xs ≡ Some x → IsTrue (list_any p xs)
found_any p [] x h = cc
found_any p (y ∷ xs) x h = by (p y) refl (found_any p xs x)
  where
    by : (b : Bool) → p y ≡ b → (find p xs ≡ Some x → IsTrue (list_any p xs)) → IsTrue (list_any p (y ∷ xs))
    by true e rest = rw e refl
    by false e rest = rw e (rest (rw e at h))

mapped : {A B : Type 0} (f : A → B) (o : Option A) (y : B) → option_map f o ≡ Some y → (x : A) × (o ≡ Some x)
mapped f None y h = cc
mapped f (Some x) y h = (x, refl)

-- ---- a value, where the step tests the child

abbrev value_of_name : List (List Decl) → List ℕ → List ℕ → Tree → Option (List ℕ)
value_of_name c uri local e = option_map (λ a. a.value) (find (is_attr_named c uri local) e.attrs)

value_to : (c : List (List Decl)) (s : Step) (uri local : List ℕ) (e : Tree) (v : List ℕ) → tested_value c s uri local e ≡ Some v → IsTrue (is_tested c s e) × (value_of_name (inside c e) uri local e ≡ Some v)
value_to c s uri local e v h = by (is_tested c s e) refl h
  where
    by : (b : Bool) → is_tested c s e ≡ b → cond b (value_of_name (inside c e) uri local e) None ≡ Some v → IsTrue (is_tested c s e) × (value_of_name (inside c e) uri local e ≡ Some v)
    by true is h' = (is, h')
    by false is h' = cc

value_from : (c : List (List Decl)) (s : Step) (uri local : List ℕ) (e : Tree) (v : List ℕ) → IsTrue (is_tested c s e) → value_of_name (inside c e) uri local e ≡ Some v → tested_value c s uri local e ≡ Some v
value_from c s uri local e v t h = ap (λ b. cond b (value_of_name (inside c e) uri local e) None) t ∙ h

-- ---- what is found in the new document, where the steps select there exactly the element with
-- this tag, which matters only if its parent's step tests it

module _ (all : List Step) (after new : Tree) (p : List ℕ) (c : List (List Decl)) (s : Step) (selected : SelectsPath all after p ↔ IsTrue (is_tested c s new)) (only : (p' : List ℕ) → SelectsPath all after p' → p' ≡ p) (there : at p after ≡ Some new) (scope : scope_at p after ≡ inside c new) where
  pub finds : (uri local v : List ℕ) → FindsValue all (record { path = p; uri = uri; local = local }) after v ↔ (tested_value c s uri local new ≡ Some v)
  finds uri local v = (
    λ h.
        let same : h.element ≡ new = same_Some _ _ (sym h.there ∙ there) in
        value_from c s uri local new v (selected.0 h.selects)
        (subst (λ (d : List (List Decl)). value_of_name d uri local new ≡ Some v) scope (subst (λ (x : Tree). value_of_name (scope_at p after) uri local x ≡ Some v) same h.has)),
    λ h.
        let w = value_to c s uri local new v h in record {
          selects = selected.1 w.0;
          element = new;
          there = there;
          has = subst (λ (d : List (List Decl)). value_of_name d uri local new ≡ Some v) (sym scope) w.1;
        },
  )

  pub found_to : (selector : Selector) (uri local : List ℕ) → selector.steps ≡ all → selector.end ≡ ends.Attribute uri local → FindsNode after selector → (v : List ℕ) × (tested_value c s uri local new ≡ Some v)
  found_to selector uri local are ends_so f =
      let sel = subst (λ (l : List Step). SelectsPath l after f.path) are f.selects in
      let here : f.path ≡ p = only f.path sel in
      let same : f.element ≡ new = same_Some _ _ (sym f.there ∙ ap (λ (r : List ℕ). at r after) here ∙ there) in
      let in_scope : scope_at f.path after ≡ inside c new = ap (λ (r : List ℕ). scope_at r after) here ∙ scope in
      let has = subst (λ (d : List (List Decl)). IsTrue (has_end (ends.Attribute uri local) d new)) in_scope
      (subst (λ (x : Tree). IsTrue (has_end (ends.Attribute uri local) (scope_at f.path after) x)) same
      (subst (λ e. IsTrue (has_end e (scope_at f.path after) f.element)) ends_so f.has)) in
      let a = any_found (is_attr_named (inside c new) uri local) new.attrs has in
      (a.0.value, value_from c s uri local new a.0.value (selected.0 (subst (λ (r : List ℕ). SelectsPath all after r) here sel)) (ap (option_map (λ (x : Attr). x.value)) a.1))

  pub found_from : (selector : Selector) (uri local v : List ℕ) → selector.steps ≡ all → selector.end ≡ ends.Attribute uri local → tested_value c s uri local new ≡ Some v → FindsNode after selector
  found_from selector uri local v are ends_so h =
      let w = value_to c s uri local new v h in
      let a = mapped (λ (x : Attr). x.value) (find (is_attr_named (inside c new) uri local) new.attrs) v w.1 in
      let has = found_any (is_attr_named (inside c new) uri local) new.attrs a.0 a.1 in record {
        path = p;
        element = new;
        selects = subst (λ (l : List Step). SelectsPath l after p) (sym are) (selected.1 w.0);
        there = there;
        has =
            subst (λ e. IsTrue (has_end e (scope_at p after) new)) (sym ends_so)
            (subst (λ (d : List (List Decl)). IsTrue (has_end (ends.Attribute uri local) d new)) (sym scope) has);
      }

-- ---- below the root

module _ (first : Step) (steps : List Step) (s : Step) (t parent child_element : Tree) (q : List ℕ) (i : ℕ) (ats : List Attr) (there : at q t ≡ Some parent) (is_kid : slice_get (child_elements_of parent) i ≡ Some child_element) (at_p : at (q ++ i ∷ []) t ≡ Some child_element)
    (sel : SelectsPath (first ∷ (steps ++ s ∷ [])) t (q ++ i ∷ [])) where
  abbrev c : List (List Decl)
  c = scope_at q t

  abbrev all : List Step
  all = first ∷ (steps ++ s ∷ [])

  abbrev p : List ℕ
  p = q ++ i ∷ []

  abbrev new : Tree
  new = with_attrs ats child_element

  abbrev after : Tree
  after = put_over p new t

  abbrev exchange : Tree → Tree
  exchange = change_child i (λ _. new)

  as_change : after ≡ change_at q exchange t
  as_change = change_at-append q (i ∷ []) (λ _. new) t

  kids_are : child_elements_of (exchange parent) ≡ set (child_elements_of parent) i new
  kids_are = child_elements-over i new parent.content

  child : SelectsChild c s (child_elements_of parent) i
  child =
      let o = (last_step_to first steps s t q i sel).1 in
      let same : o.element ≡ parent = same_Some _ _ (sym o.there ∙ there) in
      subst (λ (x : Tree). SelectsChild c s (child_elements_of x) i) same (subst (λ (z : List (List Decl)). SelectsChild z s (child_elements_of o.element) i) (sym (scope_at-below q t)) o.selects)

  named : IsTrue (is_named c s new)
  named = let same : child.this.child_element ≡ child_element = same_Some _ _ (sym child.this.there ∙ is_kid) in ap (is_named c s) (sym same) ∙ child.this.is_named

  pub selected_retag : SelectsPath all after p ↔ IsTrue (is_tested c s new)
  selected_retag = let l = lawful_over first steps s t new q i sel in (λ h. (l.0 h).1, λ h. l.1 (named, h))

  pub there_retag : at p after ≡ Some new
  there_retag = at-put_over p new t (subst (λ (o : Option Tree). IsSome o) (sym at_p) refl)

  pub scope_retag : scope_at p after ≡ inside c new
  scope_retag =
      let at_q : at q after ≡ Some (exchange parent) = ap (at q) as_change ∙ at-changed q exchange t ∙ ap (option_map exchange) there in
      let at_i : slice_get (child_elements_of (exchange parent)) i ≡ Some new = ap (λ (xs : List Tree). slice_get xs i) kids_are ∙ get_set_here (child_elements_of parent) i child_element new is_kid in
      scope_at_kid q i after (exchange parent) new at_q at_i
      ∙ ap (λ (z : List (List Decl)). z ++ new.decls ∷ []) (ap (scope_at q) as_change ∙ scope_stays q exchange (λ e. refl) t)

  pub only_retag : (p' : List ℕ) → SelectsPath all after p' → p' ≡ p
  only_retag [] h = absurd (no_shorter steps s _ _ h.1.2)
  only_retag (n ∷ r) h =
      let e = split_end n r in
      let j = e.1.0 in
      let x = subst (λ (y : Tree). SelectsPath all y (e.0 ++ j ∷ [])) as_change (subst (λ (l : List ℕ). SelectsPath all after l) e.1.1 h) in
      let l = last_step_to first steps s (change_at q exchange t) e.0 j x in
      let same : e.0 ≡ q = one_path (first ∷ steps) (change_at q exchange t) e.0 q l.0 (stays_selected first steps t q exchange (λ y. refl) (last_step_to first steps s t q i sel).0) in
      let y = subst (λ (z : List ℕ). SelectsPath all (change_at q exchange t) (z ++ j ∷ [])) same x in
      let chosen = (last_step_after first steps s t parent q exchange j (λ y. refl) (last_step_to first steps s t q i sel).0 there).0 y in
      let m = subst (λ (xs : List Tree). SelectsChild c s xs j) kids_are chosen in
      let here : j ≡ i = only_here (step_tests c s) (child_elements_of parent) i child_element new j is_kid refl child m.this in
      e.1.1 ∙ ap (λ (z : List ℕ). z ++ j ∷ []) same ∙ ap (λ (k : ℕ). q ++ k ∷ []) here

-- ---- the root

module _ (s : Step) (t : Tree) (ats : List Attr) (sel : SelectsPath (s ∷ []) t []) where
  abbrev root : Tree
  root = with_attrs ats t

  named_root : IsTrue (is_named [] s root)
  named_root = let same : sel.0.this.child_element ≡ t = sym (same_Some t sel.0.this.child_element sel.0.this.there) in ap (is_named [] s) (sym same) ∙ sel.0.this.is_named

  pub selected_root : SelectsPath (s ∷ []) root [] ↔ IsTrue (is_tested [] s root)
  selected_root =
      let r = replaced (step_tests [] s) (t ∷ []) 0 root sel.0 in
      (λ h. (r.0 h.0).1, λ h. (r.1 (named_root, h), (root, refl, tt)))

  pub only_root : (p' : List ℕ) → SelectsPath (s ∷ []) root p' → p' ≡ []
  only_root [] h = refl
  only_root (n ∷ p') h = absurd h.1.2
