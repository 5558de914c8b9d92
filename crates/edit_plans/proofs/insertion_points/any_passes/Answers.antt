use Rattle.std.proofs.Common.{false, refl, add-one, arith}
use Rattle.xml_tree.specs.Tree.{child_elements_of}
use Rattle.node_select.specs.Selection.{step_tests}
use Rattle.node_select.proofs.NodeWalks.{at_elem, at_other, at_end, no_element}
use Rattle.edit_plans.proofs.ParentAnswers.{true_false}
use Rattle.edit_plans.proofs.SideLemmas.{match_of, none_more, none_at_all}
use Rattle.edit_plans.proofs.insertion_points.any_passes.Goals as goal
use Rattle.edit_plans.proofs.insertion_points.any_passes.Goals.{in-Elem+else-passes_step, in_default}

pub returns-then-passes_step : goal.returns-then-passes_step
returns-then-passes_step c = record {
  exact =
      let xs = child_elements_of c.args.parent.now.element.now in
      let at = at_elem c.nodes-node-items.result.now c.loop-node.node-index c.loop-node.i xs c.in-Elem.child_element c.node-item.result c.loop-node.invariant.left c.loop-node-test.true c.node-item.is c.in-Elem.is in
      let both = c.passes_step.ensures.exact.0 c.if-passes_step.true in
      (λ h. (c.loop-node.i, match_of (step_tests c.args.parent.now.scope.now c.args.step.now) xs c.loop-node.i c.in-Elem.child_element at.0 both.0 both.1), λ h. refl);
}

pub loop-node-preserved : goal.loop-node-preserved
loop-node-preserved c =
    let xs = child_elements_of c.args.parent.now.element.now in
    let ns = c.nodes-node-items.result.now in
    let tests = step_tests c.args.parent.now.scope.now c.args.step.now in
    let inv = c.loop-node.invariant in
    elim c.match-node.branch [
      | in-Elem+else-passes_step w ↦
          (let at = at_elem ns c.loop-node.node-index c.loop-node.i xs w.in-Elem.child_element c.node-item.result inv.left c.loop-node-test.true c.node-item.is w.in-Elem.is in
          let lt = at.1 in
          record {
            left = rw (w.i-is, add-one, add-one) at.2;
            within = omega arith;
            small = omega arith;
            none = none_more tests xs c.loop-node.i c.match-node.i w.in-Elem.child_element w.i-is at.0 (λ both. true_false w.passes_step.result (w.passes_step.ensures.exact.1 both) w.if-passes_step.false) inv.none;
          })
      | in_default w ↦
          (record {
            left = rw (w.i-is, add-one) (at_other ns c.loop-node.node-index c.loop-node.i xs c.node-item.result inv.left c.loop-node-test.true c.node-item.is (no_element c.node-item.result w.in_default.not-Elem));
            within = omega arith;
            small = omega arith;
            none = rw w.i-is inv.none;
          })
    ]

pub returns : goal.returns
returns c = record {
  exact =
      let xs = child_elements_of c.args.parent.now.element.now in
      let inv = c.loop-node.invariant in
      let last = at_end c.nodes-node-items.result.now c.loop-node.node-index c.loop-node.i xs inv.left c.loop-node-test.false inv.within in
      (λ h. absurd (true_false false h refl), λ m. absurd (none_at_all (step_tests c.args.parent.now.scope.now c.args.step.now) xs c.loop-node.i last inv.none m));
}
