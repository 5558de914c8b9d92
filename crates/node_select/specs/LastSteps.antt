-- The last step of a path, seen from the element that the steps before it select.
use Rattle.std.specs.Prelude.{◌≡◌, ℕ, List, ◌++◌, Some}
use Rattle.xml_tree.specs.Tree.{Tree, child_elements_of, at}
use Rattle.xml_tree.specs.TreeScopes.{scope_below}
use Rattle.xml_names.specs.declared.names.Decl.{Decl}
use Rattle.node_select.specs.declared.selector.Step.{Step}
use Rattle.node_select.specs.Selection.{SelectsChild}

-- from an element with this scope: there is an element at the path, and the step selects its i-th
-- child in its scope
pub record SelectsChildAt (c : List (List Decl)) (e : Tree) (p : List ℕ) (s : Step)
    (i : ℕ) : Type 0 where
  pub element : Tree
  pub there : at p e ≡ Some element
  pub selects : SelectsChild (c ++ scope_below p e) s (child_elements_of element) i
