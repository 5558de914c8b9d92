-- What steps select, as a relation and computed, and how far first steps lead.
use Rattle.std.proofs.Common.{◌≡◌, ◌↔◌, ℕ, zero, suc, ◌<◌, ◌≤◌, Bool, true, false, cond, List, [], ◌∷◌, ◌++◌, length, take, Option, None, Some, slice_get, option_map, option_and_then, refl, sym, ap, ◌∙◌, subst, arith, append_assoc}
use Rattle.std.proofs.lemmas.Option.{same_Some, none-some}
use Rattle.node_select.specs.StepSelection.{StepTests, Matches, Selects, matches, selected_number, only_item}
use Rattle.node_select.proofs.SelectionAgreement.{matches_is, selected_is}
use Rattle.xml_tree.specs.Tree.{Tree, child_elements_of}
use Rattle.xml_names.specs.declared.names.Decl.{Decl}
use Rattle.xml_tree.specs.TreeScopes.{inside}
use Rattle.node_select.specs.declared.selector.Step.{Step}
use Rattle.node_select.specs.Selection.{step_tests, SelectsChild, SelectsAmong, SelectsPath, IsLongestMatch, selected_child, selected_path_among, selected_element_path, one_step_deeper, matched_depth, longest_match_in}

-- ---- some children and one step
-- the two steps that a path came from
two : (o : Option ℕ) (g : ℕ → Option (List ℕ)) (p : List ℕ) → option_and_then (λ i. option_map (λ q. i ∷ q) (g i)) o ≡ Some p
    → (i : ℕ) × (q : List ℕ) × (o ≡ Some i) × (g i ≡ Some q) × (p ≡ i ∷ q)
two None g p h = cc
two (Some i) g p h = by (g i) refl h
  where
    by : (x : Option (List ℕ)) → g i ≡ x → option_map (λ q. i ∷ q) x ≡ Some p → (k : ℕ) × (q : List ℕ) × (Some i ≡ Some k) × (g k ≡ Some q) × (p ≡ k ∷ q)
    by None e h' = cc
    by (Some q) e h' = (i, q, refl, e, cc)

inner : (o : Option Tree) (g : Tree → Option (List ℕ)) (q : List ℕ) → option_and_then g o ≡ Some q → (child_element : Tree) × (o ≡ Some child_element) × (g child_element ≡ Some q)
inner None g q h = cc
inner (Some child_element) g q h = (child_element, refl, h)

-- the relation and the computed path agree
pub among_to : (steps : List Step) (c : List (List Decl)) (child_elements : List Tree) (p : List ℕ) → selected_path_among c child_elements steps ≡ Some p → SelectsAmong c child_elements steps p
among_to [] c child_elements [] h = tt
among_to [] c child_elements (i ∷ p) h = cc
among_to (s ∷ steps) c child_elements p h =
    let r = two (selected_child c s child_elements) (λ i. option_and_then (λ child_element. selected_path_among (inside c child_element) (child_elements_of child_element) steps) (slice_get child_elements i)) p h in
    let k = inner (slice_get child_elements r.0) (λ child_element. selected_path_among (inside c child_element) (child_elements_of child_element) steps) r.1 r.3 in
    let one : SelectsChild c s child_elements r.0 = (selected_is (step_tests c s) child_elements r.0).0 r.2 in
    subst (λ q. SelectsAmong c child_elements (s ∷ steps) q) (sym r.4) (one, (k.0, k.1, among_to steps (inside c k.0) (child_elements_of k.0) r.1 k.2))

pub among_from : (steps : List Step) (c : List (List Decl)) (child_elements : List Tree) (p : List ℕ) → SelectsAmong c child_elements steps p → selected_path_among c child_elements steps ≡ Some p
among_from [] c child_elements [] h = refl
among_from [] c child_elements (i ∷ p) h = absurd h
among_from (s ∷ steps) c child_elements [] h = absurd h
among_from (s ∷ steps) c child_elements (i ∷ p) h =
    let one = (selected_is (step_tests c s) child_elements i).1 h.0 in
    let k = h.1 in
    let rest = among_from steps (inside c k.0) (child_elements_of k.0) p k.2 in
    rw one (rw k.1 (ap (option_map (λ q. i ∷ q)) rest))

-- ---- the document, whose one child is the root
only_zero : {A : Type 0} (x y : A) (k : ℕ) → slice_get (x ∷ []) k ≡ Some y → k ≡ 0
only_zero x y zero h = refl
only_zero x y (suc k) h = cc

sole_selects : {A : Type 0} (step : StepTests A) (x : A) → Matches step (x ∷ []) 0 → Selects step (x ∷ []) 0
sole_selects step x m = record { this = m; alone = λ k m'. only_zero x m'.child_element k m'.there }

path_by : (s : Step) (steps : List Step) (root : Tree) (p : List ℕ) (b : Bool) → matches (step_tests [] s) (root ∷ []) 0 ≡ b
    → (cond b (selected_path_among (root.decls ∷ []) (child_elements_of root) steps) None ≡ Some p) ↔ SelectsPath (s ∷ steps) root p
path_by s steps root p true e = (
  λ h. (sole_selects (step_tests [] s) root ((matches_is (step_tests [] s) (root ∷ []) 0).0 e), (root, refl, among_to steps (root.decls ∷ []) (child_elements_of root) p h)),
  λ h. let k = h.1 in
      let same : k.0 ≡ root = sym (same_Some root k.0 k.1) in
      among_from steps (root.decls ∷ []) (child_elements_of root) p (subst (λ (t : Tree). SelectsAmong (inside [] t) (child_elements_of t) steps p) same k.2),
)
path_by s steps root p false e = (
  λ h. cc,
  λ h. let t = (matches_is (step_tests [] s) (root ∷ []) 0).1 h.0.this in let z : true ≡ false = sym t ∙ e in cc,
)

pub path_is : (steps : List Step) (root : Tree) (p : List ℕ) → (selected_element_path steps root ≡ Some p) ↔ SelectsPath steps root p
path_is [] root p = (λ h. cc, λ h. absurd h)
path_is (s ∷ steps) root p = path_by s steps root p (matches (step_tests [] s) (root ∷ []) 0) refl

-- ---- how far first steps lead

pub depth_within : (steps : List Step) (c : List (List Decl)) (child_elements : List Tree) → matched_depth c child_elements steps ≤ length steps
depth_within [] c child_elements = omega arith
depth_within (s ∷ steps) c child_elements = by (option_and_then (slice_get child_elements) (selected_child c s child_elements)) (λ child_element. depth_within steps (inside c child_element) (child_elements_of child_element))
  where
    by : (o : Option Tree) → ((child_element : Tree) → matched_depth (inside c child_element) (child_elements_of child_element) steps ≤ length steps) → one_step_deeper (option_map (λ child_element. matched_depth (inside c child_element) (child_elements_of child_element) steps) o) ≤ length (s ∷ steps)
    by None h = omega arith
    by (Some child_element) h = omega (arith, h child_element)

child_of : (o : Option ℕ) (child_elements : List Tree) (child_element : Tree) → option_and_then (slice_get child_elements) o ≡ Some child_element → (i : ℕ) × (o ≡ Some i) × (slice_get child_elements i ≡ Some child_element)
child_of None child_elements child_element h = cc
child_of (Some i) child_elements child_element h = (i, refl, h)

pub depth_selects : (steps : List Step) (c : List (List Decl)) (child_elements : List Tree) → (p : List ℕ) × SelectsAmong c child_elements (take (matched_depth c child_elements steps) steps) p
depth_selects [] c child_elements = ([], tt)
depth_selects (s ∷ steps) c child_elements = by (option_and_then (slice_get child_elements) (selected_child c s child_elements)) refl (λ child_element. depth_selects steps (inside c child_element) (child_elements_of child_element))
  where
    by : (o : Option Tree) → option_and_then (slice_get child_elements) (selected_child c s child_elements) ≡ o
        → ((child_element : Tree) → (p : List ℕ) × SelectsAmong (inside c child_element) (child_elements_of child_element) (take (matched_depth (inside c child_element) (child_elements_of child_element) steps) steps) p)
        → (p : List ℕ) × SelectsAmong c child_elements (take (one_step_deeper (option_map (λ child_element. matched_depth (inside c child_element) (child_elements_of child_element) steps) o)) (s ∷ steps)) p
    by None e h = ([], tt)
    by (Some child_element) e h =
        let i = child_of (selected_child c s child_elements) child_elements child_element e in
        let rest = h child_element in
        (i.0 ∷ rest.0, ((selected_is (step_tests c s) child_elements i.0).0 i.1, (child_element, i.2, rest.1)))

pub depth_longest : (steps : List Step) (c : List (List Decl)) (child_elements : List Tree) (j : ℕ) (p : List ℕ) → matched_depth c child_elements steps < j → j ≤ length steps → SelectsAmong c child_elements (take j steps) p → ⊥
depth_longest [] c child_elements j p lt le h = omega arith
depth_longest (s ∷ steps) c child_elements zero p lt le h = omega arith
depth_longest (s ∷ steps) c child_elements (suc j) [] lt le h = absurd h
depth_longest (s ∷ steps) c child_elements (suc j) (i ∷ p) lt le h =
    let k = h.1 in
    let one = (selected_is (step_tests c s) child_elements i).1 h.0 in
    let there : option_and_then (slice_get child_elements) (selected_child c s child_elements) ≡ Some k.0 = ap (option_and_then (slice_get child_elements)) one ∙ k.1 in
    let deep : matched_depth c child_elements (s ∷ steps) ≡ suc (matched_depth (inside c k.0) (child_elements_of k.0) steps) = ap (λ o. one_step_deeper (option_map (λ child_element. matched_depth (inside c child_element) (child_elements_of child_element) steps) o)) there in
    depth_longest steps (inside c k.0) (child_elements_of k.0) j p (omega arith) (omega arith) k.2

from_root : (steps : List Step) (root : Tree) (p : List ℕ) → 0 < length steps → SelectsAmong [] (root ∷ []) steps p → (q : List ℕ) × SelectsPath steps root q
from_root [] root p lt h = absurd (omega arith)
from_root (s ∷ steps) root [] lt h = absurd h
from_root (s ∷ steps) root (i ∷ p) lt h =
    let k = h.1 in
    (p, subst (λ n. SelectsAmong [] (root ∷ []) (s ∷ steps) (n ∷ p)) (only_zero root k.0 i k.1) h)

taken : {A : Type 0} (k : ℕ) (xs : List A) → 0 < k → k ≤ length xs → 0 < length (take k xs)
taken zero xs lt le = omega arith
taken (suc k) [] lt le = absurd (omega arith)
taken (suc k) (x ∷ xs) lt le = omega arith

pub longest_is : (steps : List Step) (root : Tree) → IsLongestMatch steps root (longest_match_in steps root)
longest_is steps root =
    let k = longest_match_in steps root in
    let within = depth_within steps [] (root ∷ []) in record {
      within = within;
      selects = λ lt. let d = depth_selects steps [] (root ∷ []) in from_root (take k steps) root d.0 (taken k steps lt within) d.1;
      longest = λ j p lt le h. depth_longest steps [] (root ∷ []) j (0 ∷ p) lt le h;
    }

-- ---- as the code goes
-- the one child of a list is selected where it matches
pub sole_selected : {A : Type 0} (step : StepTests A) (x : A) → selected_number step (x ∷ []) ≡ cond (matches step (x ∷ []) 0) (Some 0) None
sole_selected step x = by (matches step (x ∷ []) 0)
  where
    by : (b : Bool) → only_item (cond b (0 ∷ []) []) ≡ cond b (Some 0) None
    by true = refl
    by false = refl

-- a path that leads to an element, and the steps from it
pub longer : (path : List ℕ) (i : ℕ) (o : Option (List ℕ)) → option_map (λ q. (path ++ i ∷ []) ++ q) o ≡ option_map (λ q. path ++ q) (option_map (λ q. i ∷ q) o)
longer path i None = refl
longer path i (Some q) = ap Some (append_assoc path (i ∷ []) q)

pub among_next : (c : List (List Decl)) (child_elements : List Tree) (s : Step) (steps : List Step) (i : ℕ) (child_element : Tree) → selected_child c s child_elements ≡ Some i → slice_get child_elements i ≡ Some child_element
    → selected_path_among c child_elements (s ∷ steps) ≡ option_map (λ q. i ∷ q) (selected_path_among (inside c child_element) (child_elements_of child_element) steps)
among_next c child_elements s steps i child_element one there = rw one (rw there refl)

pub among_missing : (c : List (List Decl)) (child_elements : List Tree) (s : Step) (steps : List Step) (i : ℕ) → selected_child c s child_elements ≡ Some i → slice_get child_elements i ≡ None → ⊥
among_missing c child_elements s steps i one none =
    let r = (selected_is (step_tests c s) child_elements i).0 one in
    none-some r.this.child_element (sym none ∙ r.this.there)

pub depth_next : (c : List (List Decl)) (child_elements : List Tree) (s : Step) (steps : List Step) (i : ℕ) (child_element : Tree) → selected_child c s child_elements ≡ Some i → slice_get child_elements i ≡ Some child_element
    → matched_depth c child_elements (s ∷ steps) ≡ suc (matched_depth (inside c child_element) (child_elements_of child_element) steps)
depth_next c child_elements s steps i child_element one there = rw one (rw there refl)

pub length-take-le : {A : Type 0} (n : ℕ) (xs : List A) → length (take n xs) ≤ n
length-take-le zero xs = omega arith
length-take-le (suc n) [] = omega arith
length-take-le (suc n) (x ∷ xs) = omega (arith, length-take-le n xs)
