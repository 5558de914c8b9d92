use Rattle.std.proofs.Common.{◌≡◌, suc, add-one, arith}
use Rattle.xml_tree.specs.Tree.{child_elements_of}
use Rattle.node_select.proofs.NodeWalks.{at_elem, at_other, at_end, no_element}
use Rattle.edit_plans.proofs.RemovalLemmas.{right_end, right_kid}
use Rattle.edit_plans.proofs.remove_child.part_after_child.Goals as goal
use Rattle.edit_plans.proofs.remove_child.part_after_child.Goals.{in-Elem+else-child-i, in_default}

pub returns-then-child-i : goal.returns-then-child-i
returns-then-child-i c = record {
  exact =
      let xs = child_elements_of c.args.parent.now.element.now in
      let inv = c.loop-node.invariant in
      let at = at_elem c.nodes-node-items.result.now c.loop-node.node-index c.loop-node.i xs c.in-Elem.child_element c.node-item.result inv.left c.loop-node-test.true c.node-item.is c.in-Elem.is in
      let past = c.if-child-i.true in
      let upto = inv.not_past in
      let same : c.loop-node.i ≡ suc c.args.child = omega arith in
      right_kid c.args.parent.now.kind c.args.parent.now.scope.now c.args.parent.now.element.now.content c.args.child c.loop-node.i c.in-Elem.child_element c.part_in.result same at.0 c.part_in.ensures.child_part;
}

pub loop-node-preserved : goal.loop-node-preserved
loop-node-preserved c =
    let xs = child_elements_of c.args.parent.now.element.now in
    let ns = c.nodes-node-items.result.now in
    let inv = c.loop-node.invariant in
    elim c.match-node.branch [
      | in-Elem+else-child-i w ↦
          (let at = at_elem ns c.loop-node.node-index c.loop-node.i xs w.in-Elem.child_element c.node-item.result inv.left c.loop-node-test.true c.node-item.is w.in-Elem.is in
          let lt = at.1 in
          let le = w.if-child-i.false in
          record {
            left = rw (w.i-is, add-one, add-one) at.2;
            within = omega arith;
            small = omega arith;
            not_past = omega arith;
          })
      | in_default w ↦
          (record {
            left = rw (w.i-is, add-one) (at_other ns c.loop-node.node-index c.loop-node.i xs c.node-item.result inv.left c.loop-node-test.true c.node-item.is (no_element c.node-item.result w.in_default.not-Elem));
            within = omega arith;
            small = omega arith;
            not_past = omega arith;
          })
    ]

pub returns : goal.returns
returns c = record {
  exact =
      let xs = child_elements_of c.args.parent.now.element.now in
      let inv = c.loop-node.invariant in
      let last = at_end c.nodes-node-items.result.now c.loop-node.node-index c.loop-node.i xs inv.left c.loop-node-test.false inv.within in
      let upto = inv.not_past in
      right_end c.args.parent.now.kind c.args.parent.now.scope.now c.args.parent.now.element.now.content c.args.child (omega arith);
}
