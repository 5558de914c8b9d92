use Rattle.std.proofs.Common.{add-one, arith}
use Rattle.xml_tree.specs.Tree.{child_elements_of}
use Rattle.node_select.proofs.NodeWalks.{at_elem, at_other, at_end, no_element}
use Rattle.edit_plans.proofs.insertion_points.count_children.Goals as goal
use Rattle.edit_plans.proofs.insertion_points.count_children.Goals.{in-Elem, in_default}

pub loop-node-preserved : goal.loop-node-preserved
loop-node-preserved c =
    let xs = child_elements_of c.args.parent.now in
    let ns = c.nodes-node-items.result.now in
    let inv = c.loop-node.invariant in
    elim c.match-node.branch [
      | in-Elem w ↦
          (let at = at_elem ns c.loop-node.node-index c.loop-node.many xs w.in-Elem.field-0 c.node-item.result inv.left c.loop-node-test.true c.node-item.is w.in-Elem.is in
          let lt = at.1 in
          record {
            left = rw (w.many-is, add-one, add-one) at.2;
            within = omega arith;
            small = omega arith;
          })
      | in_default w ↦
          (record {
            left = rw (w.many-is, add-one) (at_other ns c.loop-node.node-index c.loop-node.many xs c.node-item.result inv.left c.loop-node-test.true c.node-item.is (no_element c.node-item.result w.in_default.not-Elem));
            within = omega arith;
            small = omega arith;
          })
    ]

pub returns : goal.returns
returns c = record {
  exact =
      let inv = c.loop-node.invariant in
      at_end c.nodes-node-items.result.now c.loop-node.node-index c.loop-node.many (child_elements_of c.args.parent.now) inv.left c.loop-node-test.false inv.within;
}
