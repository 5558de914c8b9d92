use Rattle.std.proofs.Common.{◌≡◌, ◌≤◌, length, drop}
use Rattle.xml_tree.specs.Tree.{child_elements, child_elements_of}
use Rattle.xml_tree.specs.Nodes.{content_of}
use Rattle.edit_plans.proofs.insertion_points.count_children.Given as goal

abbrev pub invariant-loop-node : goal.invariant-loop-node
invariant-loop-node l = record {
  left : drop l.many (child_elements_of l.parent) ≡ child_elements (content_of (drop l.node-index l.node-items));
  within : l.many ≤ length (child_elements_of l.parent);
  small : l.many ≤ l.node-index;
}
