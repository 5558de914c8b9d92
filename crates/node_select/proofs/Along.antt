-- Laws of selection along paths.
use Rattle.std.proofs.Common.{◌≡◌, ℕ, List, [], ◌∷◌, ◌++◌, Option, Some, IsSome, slice_get, option_map, option_and_then, refl, sym, ap, ◌∙◌, subst, append_assoc, append-nil}
use Rattle.std.proofs.lemmas.Option.{same_Some}
use Rattle.std.specs.Prelude.{unwrap_or}
use Rattle.xml_tree.specs.Tree.{Tree, child_elements_of, at}
use Rattle.xml_tree.specs.TreeScopes.{scope_at, scope_below, inside}
use Rattle.xml_names.specs.declared.names.Decl.{Decl}
use Rattle.xml_tree.proofs.TreeScopeLemmas.{scope_at-below}
use Rattle.node_select.specs.declared.selector.Step.{Step}
use Rattle.node_select.specs.Selection.{SelectsChild, SelectsAmong, SelectsPath}
use Rattle.node_select.specs.LastSteps.{SelectsChildAt}
use Rattle.node_select.proofs.ReachLemmas.{path_is}

pub one_path : (steps : List Step) (root : Tree) (p q : List ℕ) → SelectsPath steps root p → SelectsPath steps root q → p ≡ q
one_path steps root p q h k = same_Some p q (sym ((path_is steps root p).1 h) ∙ (path_is steps root q).1 k)

-- what is selected from an element down exists
among_there : (steps : List Step) (c : List (List Decl)) (e : Tree) (p : List ℕ) → SelectsAmong c (child_elements_of e) steps p → IsSome (at p e)
among_there [] c e [] h = refl
among_there [] c e (i ∷ p) h = absurd h
among_there (s ∷ steps) c e [] h = absurd h
among_there (s ∷ steps) c e (i ∷ p) h =
    let k = h.1 in
    subst (λ (o : Option Tree). IsSome (option_and_then (at p) o)) (sym k.1) (among_there steps (inside c k.0) k.0 p k.2)

pub path_there : (steps : List Step) (root : Tree) (p : List ℕ) → SelectsPath steps root p → IsSome (at p root)
path_there [] root p h = absurd h
path_there (s ∷ steps) root p h =
    let k = h.1 in
    let same : k.0 ≡ root = sym (same_Some root k.0 k.1) in
    among_there steps (root.decls ∷ []) root p (subst (λ (t : Tree). SelectsAmong (inside [] t) (child_elements_of t) steps p) same k.2)

-- ---- the last step, seen from the parent

child_there : (c : List (List Decl)) (s : Step) (child_elements : List Tree) (i : ℕ) → SelectsChild c s child_elements i → (child_element : Tree) × (slice_get child_elements i ≡ Some child_element)
child_there c s child_elements i h = (h.this.child_element, h.this.there)

below_kid : (n : ℕ) (p : List ℕ) (e child_element : Tree) → slice_get (child_elements_of e) n ≡ Some child_element → scope_below (n ∷ p) e ≡ child_element.decls ∷ scope_below p child_element
below_kid n p e child_element there = ap (λ (o : Option Tree). unwrap_or (option_map (scope_at p) o) []) there ∙ scope_at-below p child_element

scope_of_kid : (c : List (List Decl)) (n : ℕ) (p : List ℕ) (e child_element : Tree) → slice_get (child_elements_of e) n ≡ Some child_element → c ++ scope_below (n ∷ p) e ≡ inside c child_element ++ scope_below p child_element
scope_of_kid c n p e child_element there = ap (λ (l : List (List Decl)). c ++ l) (below_kid n p e child_element there) ∙ sym (append_assoc c (child_element.decls ∷ []) (scope_below p child_element))

last_to : (steps : List Step) (c : List (List Decl)) (e : Tree) (p : List ℕ) (s : Step) (i : ℕ) → SelectsAmong c (child_elements_of e) (steps ++ s ∷ []) (p ++ i ∷ []) → SelectsAmong c (child_elements_of e) steps p × SelectsChildAt c e p s i
last_to [] c e [] s i h = (tt, record { element = e; there = refl; selects = subst (λ (z : List (List Decl)). SelectsChild z s (child_elements_of e) i) (sym (append-nil c)) h.0 })
last_to [] c e (n ∷ []) s i h = absurd h.1.2
last_to [] c e (n ∷ m ∷ p) s i h = absurd h.1.2
last_to (t ∷ steps) c e [] s i h = absurd (no_more steps h.1.2)
  where
    no_more : (steps : List Step) → SelectsAmong (inside c h.1.0) (child_elements_of h.1.0) (steps ++ s ∷ []) [] → ⊥
    no_more [] x = x
    no_more (u ∷ us) x = x
last_to (t ∷ steps) c e (n ∷ p) s i h =
    let k = h.1 in
    let r = last_to steps (inside c k.0) k.0 p s i k.2 in (
      (h.0, (k.0, k.1, r.0)),
      record {
        element = r.1.element;
        there = ap (option_and_then (at p)) k.1 ∙ r.1.there;
        selects = subst (λ (z : List (List Decl)). SelectsChild z s (child_elements_of r.1.element) i) (sym (scope_of_kid c n p e k.0 k.1)) r.1.selects;
      },
    )

last_from : (steps : List Step) (c : List (List Decl)) (e : Tree) (p : List ℕ) (s : Step) (i : ℕ) → SelectsAmong c (child_elements_of e) steps p → SelectsChildAt c e p s i → SelectsAmong c (child_elements_of e) (steps ++ s ∷ []) (p ++ i ∷ [])
last_from [] c e [] s i h q =
    let same : q.element ≡ e = sym (same_Some e q.element q.there) in
    let one : SelectsChild c s (child_elements_of e) i = subst (λ (t : Tree). SelectsChild c s (child_elements_of t) i) same (subst (λ (z : List (List Decl)). SelectsChild z s (child_elements_of q.element) i) (append-nil c) q.selects) in
    let k = child_there c s (child_elements_of e) i one in
    (one, (k.0, k.1, tt))
last_from [] c e (n ∷ p) s i h q = absurd h
last_from (t ∷ steps) c e [] s i h q = absurd h
last_from (t ∷ steps) c e (n ∷ p) s i h q =
    let k = h.1 in
    let there : at p k.0 ≡ Some q.element = sym (ap (option_and_then (at p)) k.1) ∙ q.there in (
      h.0,
      (
        k.0,
        k.1,
        last_from steps (inside c k.0) k.0 p s i k.2 (record {
          element = q.element;
          there = there;
          selects = subst (λ (z : List (List Decl)). SelectsChild z s (child_elements_of q.element) i) (scope_of_kid c n p e k.0 k.1) q.selects;
        }),
      ),
    )

pub last_step_to : (first : Step) (steps : List Step) (s : Step) (root : Tree) (p : List ℕ) (i : ℕ) → SelectsPath (first ∷ (steps ++ s ∷ [])) root (p ++ i ∷ []) → SelectsPath (first ∷ steps) root p × SelectsChildAt (root.decls ∷ []) root p s i
last_step_to first steps s root p i h =
    let k = h.1 in
    let same : k.0 ≡ root = sym (same_Some root k.0 k.1) in
    let r = last_to steps (root.decls ∷ []) root p s i (subst (λ (t : Tree). SelectsAmong (inside [] t) (child_elements_of t) (steps ++ s ∷ []) (p ++ i ∷ [])) same k.2) in
    ((h.0, (root, refl, r.0)), r.1)

pub last_step_from : (first : Step) (steps : List Step) (s : Step) (root : Tree) (p : List ℕ) (i : ℕ) → SelectsPath (first ∷ steps) root p × SelectsChildAt (root.decls ∷ []) root p s i → SelectsPath (first ∷ (steps ++ s ∷ [])) root (p ++ i ∷ [])
last_step_from first steps s root p i (h, q) =
    let k = h.1 in
    let same : k.0 ≡ root = sym (same_Some root k.0 k.1) in
    (h.0, (root, refl, last_from steps (root.decls ∷ []) root p s i (subst (λ (t : Tree). SelectsAmong (inside [] t) (child_elements_of t) steps p) same k.2) q))
