use Rattle.std.proofs.Common.{◌≡◌, ◌≤◌, length, drop, take, count_by}
use Rattle.std.specs.Option.{ForSome}
use Rattle.node_select.specs.InsertionPoints.{IsLawfulInsertion, IsInsertionPlan}
use Rattle.xml_tree.specs.Tree.{child_elements, child_elements_of}
use Rattle.xml_tree.specs.Nodes.{content_of}
use Rattle.node_select.specs.Selection.{step_tests}
use Rattle.usage_docs.specs.readers.NeighbourParts.{part_before}
use Rattle.edit_plans.specs.inner.Neighbours.{FitsInsertionPoint}
use Rattle.edit_plans.specs.declared.insertion_points.NoInsertionPoint.TheVariants.{Unlawful, Invalid}
use Rattle.edit_plans.proofs.insertion_points.last_gap.Given as goal

abbrev pub invariant-loop-node : goal.invariant-loop-node
invariant-loop-node l = record {
  left : drop l.i (child_elements_of l.parent.element.now) ≡ child_elements (content_of (drop l.node-index l.node-items));
  within : l.i ≤ length (child_elements_of l.parent.element.now);
  small : l.i ≤ l.node-index;
  counted : l.before ≡ count_by (step_tests l.parent.scope.now l.step).named (take l.i (child_elements_of l.parent.element.now));
  few : l.before ≤ l.i;
  prev : ForSome l.parent.kind (λ kind. l.prev ≡ part_before kind l.parent.scope.now 0 l.i l.parent.element.now.content);
  plan : IsInsertionPlan Unlawful Invalid (IsLawfulInsertion (step_tests l.parent.scope.now l.step) (child_elements_of l.parent.element.now) l.new) (FitsInsertionPoint l.parent.kind l.parent.scope.now l.parent.element.now.content l.new) l.i l.answer;
}
