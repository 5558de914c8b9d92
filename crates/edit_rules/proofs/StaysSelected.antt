-- A change inside an element that leaves its tag leaves the selection of that element, so the
-- steps after it decide alone.
use Rattle.std.proofs.Common.{◌≡◌, ◌↔◌, ◌≤◌, ℕ, zero, suc, Bool, IsTrue, List, [], ◌∷◌, ◌++◌, length, map, set, Option, Some, None, option_map, unwrap_or, slice_get, refl, sym, ap, ◌∙◌, subst}
use Rattle.std.proofs.lemmas.Option.{same_Some}
use Rattle.node_select.specs.StepSelection.{HaveSameTestResults, Selects}
use Rattle.node_select.specs.InsertionPoints.{IsLawfulInsertion}
use Rattle.node_select.proofs.SelectionAgreement.{select_alike}
use Rattle.node_select.proofs.EditedSelection.{replaced}
use Rattle.xml_tree.specs.Tree.{Content, last, more, comment_node, Tree, tree_of, child_elements, child_elements_of, at}
use Rattle.xml_tree.specs.Edits.{change_element, change_at, change_child, put_in, put_kid, put_over}
use Rattle.xml_tree.specs.TreeScopes.{scope_at, scope_below, inside}
use Rattle.xml_names.specs.declared.names.Decl.{Decl}
use Rattle.xml_tree.proofs.PlaceLaws.{at-changed, child_elements-put, change_at-append}
use Rattle.xml_tree.proofs.TreeScopeLemmas.{scope_at-below}
use Rattle.node_select.specs.declared.selector.Step.{Step}
use Rattle.node_select.specs.Selection.{is_named, is_tested, step_tests, SelectsChild, SelectsAmong, SelectsPath}
use Rattle.node_select.proofs.Along.{last_step_to, last_step_from}
use Rattle.edit_rules.specs.LawfulInsertions.{KeepsStartTag, IsLawfulGap, IsLawfulReplacement}

-- the ancestors keep their tags too
pub keeps_at : (q : List ℕ) (f : Tree → Tree) → KeepsStartTag f → KeepsStartTag (change_at q f)
keeps_at [] f k e = k e
keeps_at (n ∷ q) f k e = refl

pub kid_changed : (n : ℕ) (g : Tree → Tree) (content : Content) → slice_get (child_elements (change_element n g content)) n ≡ option_map g (slice_get (child_elements content) n)
kid_changed n g (last t) = refl
kid_changed zero g (more t m ds ats k rest) = refl
kid_changed (suc n) g (more t m ds ats k rest) = kid_changed n g rest
kid_changed n g (comment_node t x rest) = kid_changed n g rest

-- the value of the children under a function that the change preserves
pub answers_stay : {B : Type 0} (p : Tree → B) (g : Tree → Tree) → ((child_element : Tree) → p (g child_element) ≡ p child_element) → (n : ℕ) (content : Content) → map p (child_elements (change_element n g content)) ≡ map p (child_elements content)
answers_stay p g h n (last t) = refl
answers_stay p g h zero (more t m ds ats k rest) = ap (λ b. b ∷ map p (child_elements rest)) (h (tree_of m ds ats k))
answers_stay p g h (suc n) (more t m ds ats k rest) = ap (λ bs. p (tree_of m ds ats k) ∷ bs) (answers_stay p g h n rest)
answers_stay p g h n (comment_node t x rest) = answers_stay p g h n rest

alike : (c : List (List Decl)) (s : Step) (g : Tree → Tree) → KeepsStartTag g → (n : ℕ) (content : Content) → HaveSameTestResults (step_tests c s) (step_tests c s) (child_elements content) (child_elements (change_element n g content))
alike c s g k n content = record {
  same_position = refl;
  same_named = sym (answers_stay (is_named c s) g (λ child_element. ap (is_named c s) (k child_element)) n content);
  same_tested = sym (answers_stay (is_tested c s) g (λ child_element. ap (is_tested c s) (k child_element)) n content);
}

inside_stays : (c : List (List Decl)) (g : Tree → Tree) (child_element : Tree) → KeepsStartTag g → inside c (g child_element) ≡ inside c child_element
inside_stays c g child_element k = ap (inside c) (k child_element)

-- what is selected from an element down stays selected
pub stays_below : (steps : List Step) (c : List (List Decl)) (e : Tree) (q : List ℕ) (f : Tree → Tree) → KeepsStartTag f → SelectsAmong c (child_elements_of e) steps q → SelectsAmong c (child_elements_of (change_at q f e)) steps q
stays_below [] c e [] f k h = tt
stays_below [] c e (n ∷ q) f k h = absurd h
stays_below (s ∷ steps) c e [] f k h = absurd h
stays_below (s ∷ steps) c e (n ∷ q) f k h =
    let child_element = h.1.0 in
    let g = change_at q f in (
      (select_alike (step_tests c s) (step_tests c s) (child_elements_of e) (child_elements (change_element n g e.content)) n (alike c s g (keeps_at q f k) n e.content)).0 h.0,
      (
        g child_element,
        kid_changed n g e.content ∙ ap (option_map g) h.1.1,
        subst (λ (z : List (List Decl)). SelectsAmong z (child_elements_of (g child_element)) steps q) (sym (inside_stays c g child_element (keeps_at q f k))) (stays_below steps (inside c child_element) child_element q f k h.1.2),
      ),
    )

root_kid : (root child_element : Tree) → slice_get (root ∷ []) 0 ≡ Some child_element → child_element ≡ root
root_kid root child_element h = sym (same_Some root child_element h)

-- so does the element that the change is made in
pub stays_selected : (first : Step) (steps : List Step) (root : Tree) (q : List ℕ) (f : Tree → Tree) → KeepsStartTag f → SelectsPath (first ∷ steps) root q → SelectsPath (first ∷ steps) (change_at q f root) q
stays_selected first steps root q f k h =
    let g = change_at q f in
    let keeps = keeps_at q f k in
    let below = subst (λ (t : Tree). SelectsAmong (inside [] t) (child_elements_of t) steps q) (root_kid root h.1.0 h.1.1) h.1.2 in (
      (select_alike (step_tests [] first) (step_tests [] first) (root ∷ []) (g root ∷ []) 0 (record {
        same_position = refl;
        same_named = ap (λ (b : Bool). b ∷ []) (sym (ap (is_named [] first) (keeps root)));
        same_tested = ap (λ (b : Bool). b ∷ []) (sym (ap (is_tested [] first) (keeps root)));
      })).0 h.0,
      (
        g root,
        refl,
        subst (λ (z : List (List Decl)). SelectsAmong z (child_elements_of (g root)) steps q) (sym (inside_stays [] g root keeps)) (stays_below steps (inside [] root) root q f k below),
      ),
    )

-- ---- the scope at the element stays

scope_of_kid : (o : Option Tree) (q : List ℕ) (f : Tree → Tree) → ((e : Tree) → scope_at q (change_at q f e) ≡ scope_at q e) → option_map (scope_at q) (option_map (change_at q f) o) ≡ option_map (scope_at q) o
scope_of_kid None q f h = refl
scope_of_kid (Some e) q f h = ap (λ (z : List (List Decl)). Some z) (h e)

-- a change that leaves the declarations of the element that it is made in
pub scope_kept : (q : List ℕ) (f : Tree → Tree) → ((e : Tree) → (f e).decls ≡ e.decls) → (e : Tree) → scope_at q (change_at q f e) ≡ scope_at q e
scope_kept [] f k e = ap (λ (ds : List Decl). ds ∷ []) (k e)
scope_kept (n ∷ q) f k e =
    ap (λ (o : Option (List (List Decl))). e.decls ∷ unwrap_or o [])
    (ap (option_map (scope_at q)) (kid_changed n (change_at q f) e.content) ∙ scope_of_kid (slice_get (child_elements_of e) n) q f (scope_kept q f k))

pub scope_stays : (q : List ℕ) (f : Tree → Tree) → KeepsStartTag f → (e : Tree) → scope_at q (change_at q f e) ≡ scope_at q e
scope_stays q f k e = scope_kept q f (λ x. ap (λ (y : Tree). y.decls) (k x)) e

-- ---- the last step, after the change

pub last_step_after : (first : Step) (steps : List Step) (s : Step) (root parent : Tree) (q : List ℕ) (f : Tree → Tree) (i : ℕ) → KeepsStartTag f → SelectsPath (first ∷ steps) root q → at q root ≡ Some parent
    → SelectsPath (first ∷ (steps ++ s ∷ [])) (change_at q f root) (q ++ i ∷ []) ↔ SelectsChild (scope_at q root) s (child_elements_of (f parent)) i
last_step_after first steps s root parent q f i k sel there =
    let new = change_at q f root in
    let there_new : at q new ≡ Some (f parent) = at-changed q f root ∙ ap (option_map f) there in
    let scope : (new.decls ∷ []) ++ scope_below q new ≡ scope_at q root = sym (scope_at-below q new) ∙ scope_stays q f k root in (
      λ h.
          let p = (last_step_to first steps s new q i h).1 in
          let same : p.element ≡ f parent = same_Some _ _ (sym p.there ∙ there_new) in
          subst (λ (t : Tree). SelectsChild (scope_at q root) s (child_elements_of t) i) same (subst (λ (z : List (List Decl)). SelectsChild z s (child_elements_of p.element) i) scope p.selects),
      λ h. last_step_from first steps s new q i (
        stays_selected first steps root q f k sel,
        record {
          element = f parent;
          there = there_new;
          selects = subst (λ (z : List (List Decl)). SelectsChild z s (child_elements_of (f parent)) i) (sym scope) h;
        },
      ),
    )

-- a gap is lawful exactly when the last step selects the new element among the children of the
-- parent
pub lawful_gap : (first : Step) (steps : List Step) (s : Step) (root parent e : Tree) (q : List ℕ) (gap : ℕ) → SelectsPath (first ∷ steps) root q → at q root ≡ Some parent → gap ≤ length (child_elements_of parent)
    → IsLawfulGap (first ∷ (steps ++ s ∷ [])) root e q gap ↔ IsLawfulInsertion (step_tests (scope_at q root) s) (child_elements_of parent) e gap
lawful_gap first steps s root parent e q gap sel there le =
    let c = scope_at q root in
    subst (λ (xs : List Tree). SelectsPath (first ∷ (steps ++ s ∷ [])) (put_in q gap e root) (q ++ gap ∷ []) ↔ Selects (step_tests c s) xs gap)
    (child_elements-put gap e parent.content le)
    (last_step_after first steps s root parent q (put_kid gap e) gap (λ x. refl) sel there)

-- ---- an element replaced by another

pub child_elements-over : (i : ℕ) (e : Tree) (content : Content) → child_elements (change_element i (λ _. e) content) ≡ set (child_elements content) i e
child_elements-over i e (last t) = refl
child_elements-over zero e (more t m ds ats k rest) = refl
child_elements-over (suc i) e (more t m ds ats k rest) = ap (λ l. tree_of m ds ats k ∷ l) (child_elements-over i e rest)
child_elements-over i e (comment_node t x rest) = child_elements-over i e rest

-- a replacement of a child is lawful exactly when the new element passes both tests of the last
-- step
pub lawful_over : (first : Step) (steps : List Step) (s : Step) (root e : Tree) (q : List ℕ) (i : ℕ) → SelectsPath (first ∷ (steps ++ s ∷ [])) root (q ++ i ∷ [])
    → IsLawfulReplacement (first ∷ (steps ++ s ∷ [])) root e (q ++ i ∷ []) ↔ (IsTrue (is_named (scope_at q root) s e) × IsTrue (is_tested (scope_at q root) s e))
lawful_over first steps s root e q i sel =
    let c = scope_at q root in
    let old = last_step_to first steps s root q i sel in
    let parent = old.1.element in
    let at_parent : SelectsChild c s (child_elements_of parent) i = subst (λ (z : List (List Decl)). SelectsChild z s (child_elements_of parent) i) (sym (scope_at-below q root)) old.1.selects in
    let f = change_child i (λ _. e) in
    let there = last_step_after first steps s root parent q f i (λ x. refl) old.0 old.1.there in
    let same : put_over (q ++ i ∷ []) e root ≡ change_at q f root = change_at-append q (i ∷ []) (λ _. e) root in
    let kids_are : child_elements_of (f parent) ≡ set (child_elements_of parent) i e = child_elements-over i e parent.content in
    let r = replaced (step_tests c s) (child_elements_of parent) i e at_parent in (
      λ h. r.0 (subst (λ (xs : List Tree). SelectsChild c s xs i) kids_are (there.0 (subst (λ (t : Tree). SelectsPath (first ∷ (steps ++ s ∷ [])) t (q ++ i ∷ [])) same h))),
      λ h. subst (λ (t : Tree). SelectsPath (first ∷ (steps ++ s ∷ [])) t (q ++ i ∷ [])) (sym same) (there.1 (subst (λ (xs : List Tree). SelectsChild c s xs i) (sym kids_are) (r.1 h))),
    )
