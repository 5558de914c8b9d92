-- Where an element exists, so does its parent.
use Rattle.std.proofs.Common.{◌≡◌, ℕ, Bool, true, false, ◌||◌, List, [], ◌∷◌, Option, Some, None, IsSome, IsTrue, is_some, cond, refl}
use Rattle.std.proofs.lemmas.Bool.{false≢true}
use Rattle.std.specs.List.{slice_get}
use Rattle.std.specs.Option.{option_and_then, option_map}
use Rattle.xml_tree.specs.Tree.{Tree, child_elements_of}
use Rattle.xml_names.specs.declared.names.Decl.{Decl}
use Rattle.xml_tree.specs.TreeScopes.{inside}
use Rattle.node_select.specs.Selection.{selected_path_among, selected_child, selected_element_path}
use Rattle.node_select.specs.declared.selector.Step.{Step}
use Rattle.reply_bodies.specs.NodePlaces.{parent_steps, element_has_place}

-- two chains, of which the second continues wherever the first does
both_go_on : {A B : Type 0} (o : Option A) (f g : A → Option B) → ((x : A) → IsSome (f x) → IsSome (g x)) → IsSome (option_and_then f o) → IsSome (option_and_then g o)
both_go_on None f g on h = h
both_go_on (Some x) f g on h = on x h

both_map : {A B : Type 0} (f : A → B) (o p : Option A) → (IsSome o → IsSome p) → IsSome (option_map f o) → IsSome (option_map f p)
both_map f None p on h = absurd (false≢true h)
both_map f (Some x) None on h = absurd (false≢true (on refl))
both_map f (Some x) (Some y) on h = refl

among_front : (ss : List Step) (c : List (List Decl)) (child_elements : List Tree) → IsSome (selected_path_among c child_elements ss) → IsSome (selected_path_among c child_elements (parent_steps ss))
among_front [] c child_elements h = h
among_front (s ∷ []) c child_elements h = refl
among_front (s ∷ r ∷ ss) c child_elements h =
    both_go_on (selected_child c s child_elements)
    (λ i. option_map (λ (p : List ℕ). i ∷ p) (option_and_then (λ (child_element : Tree). selected_path_among (inside c child_element) (child_elements_of child_element) (r ∷ ss)) (slice_get child_elements i)))
    (λ i. option_map (λ (p : List ℕ). i ∷ p) (option_and_then (λ (child_element : Tree). selected_path_among (inside c child_element) (child_elements_of child_element) (parent_steps (r ∷ ss))) (slice_get child_elements i)))
    (λ i. both_map (λ (p : List ℕ). i ∷ p) _ _
    (both_go_on (slice_get child_elements i) (λ (child_element : Tree). selected_path_among (inside c child_element) (child_elements_of child_element) (r ∷ ss)) (λ (child_element : Tree). selected_path_among (inside c child_element) (child_elements_of child_element) (parent_steps (r ∷ ss)))
    (λ child_element. among_front (r ∷ ss) (inside c child_element) (child_elements_of child_element))))
    h

if_first : (b : Bool) (o p : Option (List ℕ)) → (IsSome o → IsSome p) → IsSome (cond b o None) → IsSome (cond b p None)
if_first true o p on h = on h
if_first false o p on h = h

parent_there : (s r : Step) (ss : List Step) (t : Tree) → IsSome (selected_element_path (s ∷ r ∷ ss) t) → IsSome (selected_element_path (parent_steps (s ∷ r ∷ ss)) t)
parent_there s r ss t h =
    if_first _ (selected_path_among (t.decls ∷ []) (child_elements_of t) (r ∷ ss)) (selected_path_among (t.decls ∷ []) (child_elements_of t) (parent_steps (r ∷ ss)))
    (among_front (r ∷ ss) (t.decls ∷ []) (child_elements_of t)) h

one_of : (a b : Bool) → (a ≡ true → b ≡ true) → (a || b) ≡ true → b ≡ true
one_of true b on h = on refl
one_of false b on h = h

or_last : (a b : Bool) → b ≡ true → (a || b) ≡ true
or_last true b h = refl
or_last false b h = h

pub parent_from_place : (s r : Step) (ss : List Step) (t : Tree) → IsTrue (element_has_place (s ∷ r ∷ ss) t) → IsSome (selected_element_path (parent_steps (s ∷ r ∷ ss)) t)
parent_from_place s r ss t h = one_of (is_some (selected_element_path (s ∷ r ∷ ss) t)) (is_some (selected_element_path (parent_steps (s ∷ r ∷ ss)) t)) (parent_there s r ss t) h

pub place_from_parent : (s r : Step) (ss : List Step) (t : Tree) → IsSome (selected_element_path (parent_steps (s ∷ r ∷ ss)) t) → IsTrue (element_has_place (s ∷ r ∷ ss) t)
place_from_parent s r ss t h = or_last (is_some (selected_element_path (s ∷ r ∷ ss) t)) (is_some (selected_element_path (parent_steps (s ∷ r ∷ ss)) t)) h
