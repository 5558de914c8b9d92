use Rattle.std.proofs.Common.{◌≡◌, take}
use Rattle.xml_tree.proofs.tree_copies.+equal.Given as goal

abbrev pub invariant-equal_nodes-loop-i : goal.invariant-equal_nodes-loop-i
invariant-equal_nodes-loop-i l = take l.i l.a ≡ take l.i l.b
