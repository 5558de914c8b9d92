-- How far steps lead, one step after the other.
use Rattle.std.proofs.Common.{◌≡◌, ℕ, suc, ◌<◌, ◌≤◌, ◌-◌, cond, List, [], ◌∷◌, ◌++◌, length, take, drop, get_or, Option, None, Some, option_map, slice_get, IsTrue, refl, sym, ap, ◌∙◌, subst, arith}
use Rattle.node_select.specs.StepSelection.{matches}
use Rattle.xml_tree.specs.Tree.{Tree, child_elements_of}
use Rattle.xml_names.specs.declared.names.Decl.{Decl}
use Rattle.xml_tree.specs.TreeScopes.{inside}
use Rattle.node_select.specs.declared.descent.Reached.{Reached}
use Rattle.node_select.specs.declared.selector.Step.{Step}
use Rattle.node_select.specs.inner.LongestMatches.{ReachesBelow}
use Rattle.node_select.specs.Selection.{step_tests, selected_child, selected_path_among, matched_depth, longest_match_in, IsLongestMatch, SelectsPath}
use Rattle.node_select.proofs.ReachLemmas.{among_next, depth_next, longer, longest_is, path_is, sole_selected}

-- one step leads to a child, and the other steps on from there
pub goes_on : (c : List (List Decl)) (child_elements : List Tree) (s : Step) (steps : List Step) (base : List ℕ) (i : ℕ) (child_element : Tree) (below reached : Reached) → selected_child c s child_elements ≡ Some i → slice_get child_elements i ≡ Some child_element
    → ReachesBelow (inside c child_element) (child_elements_of child_element) steps (base ++ i ∷ []) below → reached.steps ≡ suc below.steps → reached.path ≡ below.path → ReachesBelow c child_elements (s ∷ steps) base reached
goes_on c child_elements s steps base i child_element below reached one there b counted at = record {
  counted = counted ∙ ap suc b.counted ∙ sym (depth_next c child_elements s steps i child_element one there);
  leads =
      ap (λ n. option_map (λ q. base ++ q) (selected_path_among c child_elements (take n (s ∷ steps)))) counted
      ∙ ap (option_map (λ q. base ++ q)) (among_next c child_elements s (take below.steps steps) i child_element one there)
      ∙ sym (longer base i (selected_path_among (inside c child_element) (child_elements_of child_element) (take below.steps steps)))
      ∙ b.leads
      ∙ ap (λ (p : List ℕ). Some p) (sym at);
}

-- ---- from the document on

same_path : (o : Option (List ℕ)) (p : List ℕ) → option_map (λ q. [] ++ q) o ≡ Some p → o ≡ Some p
same_path None p h = cc
same_path (Some q) p h = h

-- the root matches the first step, and the other steps lead on
pub from_root : (s : Step) (steps : List Step) (root : Tree) (below : Reached) → IsTrue (matches (step_tests [] s) (root ∷ []) 0) → ReachesBelow (root.decls ∷ []) (child_elements_of root) steps [] below → SelectsPath (s ∷ take below.steps steps) root below.path
from_root s steps root below m b = (path_is (s ∷ take below.steps steps) root below.path).0 (rw m (same_path _ _ b.leads))

pub longest_next : (s : Step) (steps : List Step) (root : Tree) → IsTrue (matches (step_tests [] s) (root ∷ []) 0) → longest_match_in (s ∷ steps) root ≡ suc (matched_depth (root.decls ∷ []) (child_elements_of root) steps)
longest_next s steps root m = depth_next [] (root ∷ []) s steps 0 root (sole_selected (step_tests [] s) root ∙ ap (λ b. cond b (Some 0) None) m) refl

-- the computed number of steps is the greatest
pub most : (steps : List Step) (root : Tree) (n : ℕ) → n ≡ longest_match_in steps root → IsLongestMatch steps root n
most steps root n is = subst (λ (k : ℕ). IsLongestMatch steps root k) (sym is) (longest_is steps root)

-- ---- as the code goes

all_taken : {A : Type 0} (xs : List A) (n : ℕ) → n ≡ length xs → take n xs ≡ xs
all_taken [] n e = rw e refl
all_taken (x ∷ xs) n e = rw e (ap (λ l. x ∷ l) (all_taken xs (length xs) refl))

-- steps that aren't empty are one and the rest
pub first_and_rest : (steps : List Step) (s : Step) → 1 ≤ length steps → s ≡ get_or steps 0 s → steps ≡ s ∷ take (length steps - 1) (drop 1 steps)
first_and_rest [] s le is = absurd (omega arith)
first_and_rest (x ∷ steps) s le is = ap (λ (y : Step). y ∷ steps) (sym is) ∙ ap (λ (l : List Step). s ∷ l) (sym (all_taken steps (length (x ∷ steps) - 1) (omega arith)))

-- where the root matches, and the other steps lead on
pub onwards : (s : Step) (steps : List Step) (root : Tree) (below reached : Reached) → IsTrue (matches (step_tests [] s) (root ∷ []) 0) → ReachesBelow (root.decls ∷ []) (child_elements_of root) steps [] below → reached.steps ≡ suc below.steps → reached.path ≡ below.path
    → IsLongestMatch (s ∷ steps) root reached.steps × (0 < reached.steps → SelectsPath (take reached.steps (s ∷ steps)) root reached.path)
onwards s steps root below reached m b counted at = (
  most (s ∷ steps) root reached.steps (counted ∙ ap suc b.counted ∙ sym (longest_next s steps root m)),
  λ lt. subst (λ (p : List ℕ). SelectsPath (take reached.steps (s ∷ steps)) root p) (sym at) (subst (λ (n : ℕ). SelectsPath (take n (s ∷ steps)) root below.path) (sym counted) (from_root s steps root below m b)),
)
