use Rattle.std.proofs.Common.{◌≡◌, ◌≤◌, length, drop}
use Rattle.std.specs.Prelude.{chars}
use Rattle.xml_tree.specs.Tree.{child_elements, child_elements_of}
use Rattle.xml_tree.specs.Nodes.{content_of}
use Rattle.usage_docs.specs.UniqueKeys.{sibling_key}
use Rattle.edit_plans.proofs.TwinLemmas.{NoneMarked}
use Rattle.edit_plans.proofs.siblings.find_child_with_key.Given as goal

abbrev pub invariant-loop-node : goal.invariant-loop-node
invariant-loop-node l = record {
  left : drop l.i (child_elements_of l.parent.element.now) ≡ child_elements (content_of (drop l.node-index l.node-items));
  within : l.i ≤ length (child_elements_of l.parent.element.now);
  small : l.i ≤ l.node-index;
  none : NoneMarked l.row l.parent.scope.now (child_elements_of l.parent.element.now) (sibling_key l.kind (chars l.value)) l.left_out l.i;
}
