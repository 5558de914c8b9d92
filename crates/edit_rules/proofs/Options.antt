-- Steps through options, and down one child.
use Rattle.std.proofs.Common.{◌≡◌, ℕ, List, [], ◌∷◌, ◌++◌, Option, Some, None, option_map, option_and_then, unwrap_or, slice_get, refl, sym, ap, ◌∙◌, append_assoc}
use Rattle.xml_tree.specs.Tree.{Tree, child_elements_of, at}
use Rattle.xml_tree.specs.TreeScopes.{scope_at, scope_below, inside}
use Rattle.xml_names.specs.declared.names.Decl.{Decl}
use Rattle.xml_tree.proofs.TreeScopeLemmas.{scope_at-below}

-- what a successful step was made from
pub came_from : {A B : Type 0} (f : A → Option B) (o : Option A) (y : B) → option_and_then f o ≡ Some y → (x : A) × ((o ≡ Some x) × (f x ≡ Some y))
came_from f None y h = cc
came_from f (Some x) y h = (x, (refl, h))

-- the child that a path leads through
pub through_kid : (n : ℕ) (q : List ℕ) (e parent : Tree) → at (n ∷ q) e ≡ Some parent → (child_element : Tree) × ((slice_get (child_elements_of e) n ≡ Some child_element) × (at q child_element ≡ Some parent))
through_kid n q e parent h = came_from (at q) (slice_get (child_elements_of e) n) parent h

pub scope_through : (c : List (List Decl)) (n : ℕ) (q : List ℕ) (e child_element : Tree) → slice_get (child_elements_of e) n ≡ Some child_element → c ++ scope_below (n ∷ q) e ≡ inside c child_element ++ scope_below q child_element
scope_through c n q e child_element there =
    ap (λ (l : List (List Decl)). c ++ l) (ap (λ (o : Option Tree). unwrap_or (option_map (scope_at q) o) []) there ∙ scope_at-below q child_element)
    ∙ sym (append_assoc c (child_element.decls ∷ []) (scope_below q child_element))
