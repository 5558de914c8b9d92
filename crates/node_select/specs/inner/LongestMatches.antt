-- How far steps lead from an element down, and the path.
use Rattle.std.specs.Prelude.{◌≡◌, ℕ, List, ◌++◌, take, Some, option_map}
use Rattle.xml_tree.specs.Tree.{Tree}
use Rattle.xml_names.specs.declared.names.Decl.{Decl}
use Rattle.node_select.specs.declared.descent.Reached.{Reached}
use Rattle.node_select.specs.declared.selector.Step.{Step}
use Rattle.node_select.specs.Selection.{matched_depth, selected_path_among}

-- from these children of the element at `base` on, `reached.steps` first steps select one element
-- after the other, and lead to `reached.path`
pub record ReachesBelow (c : List (List Decl)) (child_elements : List Tree) (steps : List Step)
    (base : List ℕ) (reached : Reached) : Type 0 where
  pub counted : reached.steps ≡ matched_depth c child_elements steps
  pub leads : option_map (λ q. base ++ q)
      (selected_path_among c child_elements (take reached.steps steps))
      ≡ Some reached.path
