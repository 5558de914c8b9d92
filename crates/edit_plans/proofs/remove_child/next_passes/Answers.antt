use Rattle.std.proofs.Common.{false, refl, sym, ◌∙◌, add-one, arith}
use Rattle.xml_tree.specs.Tree.{child_elements_of}
use Rattle.node_select.specs.Selection.{step_tests}
use Rattle.node_select.proofs.NodeWalks.{at_elem, at_other, at_end, no_element}
use Rattle.edit_plans.proofs.ParentAnswers.{true_false}
use Rattle.edit_plans.proofs.RemovalLemmas.{next_is, next_tested, no_next, none_more_named}
use Rattle.edit_plans.proofs.remove_child.next_passes.Goals as goal
use Rattle.edit_plans.proofs.remove_child.next_passes.Goals.{in-Elem+else-is_next, in_default}

pub returns-then-is_next : goal.returns-then-is_next
returns-then-is_next c = record {
  exact =
      let xs = child_elements_of c.args.parent.now.element.now in
      let tests = step_tests c.args.parent.now.scope.now c.args.step.now in
      let inv = c.loop-node.invariant in
      let at = at_elem c.nodes-node-items.result.now c.loop-node.node-index c.loop-node.i xs c.in-Elem.child_element c.node-item.result inv.left c.loop-node-test.true c.node-item.is c.in-Elem.is in
      let both = c.is_next.ensures.exact.0 c.if-is_next.true in (
        λ h. next_is tests xs c.args.child c.loop-node.i c.in-Elem.child_element both.0 at.0 both.1 inv.none (sym c.matches_test.ensures.passes_attribute_test ∙ h),
        λ m. c.matches_test.ensures.passes_attribute_test ∙ next_tested tests xs c.args.child c.loop-node.i c.in-Elem.child_element both.0 at.0 both.1 inv.none m,
      );
}

pub loop-node-preserved : goal.loop-node-preserved
loop-node-preserved c =
    let xs = child_elements_of c.args.parent.now.element.now in
    let ns = c.nodes-node-items.result.now in
    let tests = step_tests c.args.parent.now.scope.now c.args.step.now in
    let inv = c.loop-node.invariant in
    elim c.match-node.branch [
      | in-Elem+else-is_next w ↦
          (let at = at_elem ns c.loop-node.node-index c.loop-node.i xs w.in-Elem.child_element c.node-item.result inv.left c.loop-node-test.true c.node-item.is w.in-Elem.is in
          let lt = at.1 in
          record {
            left = rw (w.i-is, add-one, add-one) at.2;
            within = omega arith;
            small = omega arith;
            none = none_more_named tests xs c.args.child c.loop-node.i c.match-node.i w.in-Elem.child_element w.is_next.result w.i-is at.0 w.is_next.ensures.exact w.if-is_next.false inv.none;
          })
      | in_default w ↦
          (record {
            left = rw (w.i-is, add-one) (at_other ns c.loop-node.node-index c.loop-node.i xs c.node-item.result inv.left c.loop-node-test.true c.node-item.is (no_element c.node-item.result w.in_default.not-Elem));
            within = omega arith;
            small = omega arith;
            none = rw w.i-is inv.none;
          })
    ]

pub returns : goal.returns
returns c = record {
  exact =
      let xs = child_elements_of c.args.parent.now.element.now in
      let inv = c.loop-node.invariant in
      let last = at_end c.nodes-node-items.result.now c.loop-node.node-index c.loop-node.i xs inv.left c.loop-node-test.false inv.within in
      (λ h. absurd (true_false false h refl), λ m. absurd (no_next (step_tests c.args.parent.now.scope.now c.args.step.now) xs c.args.child c.loop-node.i (omega arith) inv.none m));
}
