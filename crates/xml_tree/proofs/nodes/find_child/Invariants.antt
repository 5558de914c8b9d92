use Rattle.std.proofs.Common.{◌≡◌, drop}
use Rattle.std.specs.List.{slice_get}
use Rattle.xml_tree.specs.Tree.{child_elements}
use Rattle.xml_tree.specs.Nodes.{content_of}
use Rattle.xml_tree.proofs.nodes.find_child.Given as goal

abbrev pub invariant-loop-node : goal.invariant-loop-node
invariant-loop-node l = slice_get (child_elements (content_of (drop l.node-index l.nodes))) l.left ≡ slice_get (child_elements (content_of l.nodes)) l.child
