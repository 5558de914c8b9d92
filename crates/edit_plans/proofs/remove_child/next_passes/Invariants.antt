use Rattle.std.proofs.Common.{◌≡◌, ◌≤◌, length, drop}
use Rattle.xml_tree.specs.Tree.{child_elements, child_elements_of}
use Rattle.xml_tree.specs.Nodes.{content_of}
use Rattle.node_select.specs.Selection.{step_tests}
use Rattle.edit_plans.proofs.RemovalLemmas.{NoneNamed}
use Rattle.edit_plans.proofs.remove_child.next_passes.Given as goal

abbrev pub invariant-loop-node : goal.invariant-loop-node
invariant-loop-node l = record {
  left : drop l.i (child_elements_of l.parent.element.now) ≡ child_elements (content_of (drop l.node-index l.node-items));
  within : l.i ≤ length (child_elements_of l.parent.element.now);
  small : l.i ≤ l.node-index;
  none : NoneNamed (step_tests l.parent.scope.now l.step) (child_elements_of l.parent.element.now) l.child l.i;
}
