use Rattle.std.proofs.Common.{◌≡◌, ◌++◌, drop}
use Rattle.xml_tree.specs.Nodes.{content_of}
use Rattle.xml_tree.specs.Print.{print_content}
use Rattle.tree_print.proofs.printing.+print.Given as goal

abbrev pub invariant-push_rest_of_element-loop-node : goal.invariant-push_rest_of_element-loop-node
invariant-push_rest_of_element-loop-node l = l.out ++ print_content (content_of (drop l.node-index l.nodes)) ≡ l.initial.out ++ print_content (content_of l.nodes)
