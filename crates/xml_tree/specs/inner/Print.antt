-- The print of one node.
use Rattle.std.specs.Prelude.{ℕ, List}
use Rattle.xml_tree.specs.declared.tree.Node.{Node}
use Rattle.xml_tree.specs.declared.tree.Node.TheVariants.{Elem, Chars, Comment}
use Rattle.xml_names.specs.Markup.{print_comment, print_text}
use Rattle.xml_tree.specs.Print.{print}

-- the print of a node: an element, text or a comment
abbrev pub print_node : Node → List ℕ
print_node (Elem e) = print e
print_node (Chars t) = print_text t
print_node (Comment x) = print_comment x
