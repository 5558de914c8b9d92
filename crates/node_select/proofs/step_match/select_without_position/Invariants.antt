use Rattle.std.proofs.Common.{◌≡◌, ◌≤◌, length, drop}
use Rattle.xml_tree.specs.Tree.{child_elements, child_elements_of}
use Rattle.xml_tree.specs.Nodes.{content_of}
use Rattle.node_select.proofs.OnePass.{OnlyBelow}
use Rattle.node_select.specs.inner.Selection.{MatchesChild}
use Rattle.node_select.proofs.step_match.select_without_position.Given as goal

abbrev pub invariant-loop-node : goal.invariant-loop-node
invariant-loop-node l = record {
  left : drop l.i (child_elements_of l.element) ≡ child_elements (content_of (drop l.node-index l.node-items));
  within : l.i ≤ length (child_elements_of l.element);
  small : l.i ≤ l.node-index;
  only : OnlyBelow (MatchesChild l.scope l.step (child_elements_of l.element)) l.i l.found;
}
