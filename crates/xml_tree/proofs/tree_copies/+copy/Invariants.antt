use Rattle.std.proofs.Common.{◌≡◌, take}
use Rattle.xml_tree.proofs.tree_copies.+copy.Given as goal

abbrev pub invariant-copy_nodes-loop-node : goal.invariant-copy_nodes-loop-node
invariant-copy_nodes-loop-node l = l.made.items ≡ take l.node-index l.nodes
