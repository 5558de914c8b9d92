-- The functions on the content of an element, stated on its nodes.
use Rattle.std.specs.Prelude.{ℕ, max, Bool, false, List, [], ◌∷◌}
use Rattle.xml_tree.specs.Nodes.{node_height}
use Rattle.xml_tree.specs.declared.tree.Node.{Node}
use Rattle.xml_tree.specs.declared.tree.Node.TheVariants.{Elem, Chars, Comment}
use Rattle.patch_rules.specs.PatchOperations.{is_white_space}

-- a text of white space alone
abbrev pub is_blank_node : Node → Bool
is_blank_node (Elem e) = false
is_blank_node (Chars t) = is_white_space t
is_blank_node (Comment x) = false

-- the height of nodes: how many elements are one in another
abbrev pub nodes_height : List Node → ℕ
nodes_height [] = 0
nodes_height (n ∷ ns) = max (node_height n) (nodes_height ns)
