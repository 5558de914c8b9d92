use Rattle.std.specs.Prelude.{chars}
use Rattle.std.proofs.Common.{ap, ◌∙◌, option_and_then, add-one, arith}
use Rattle.xml_tree.specs.Tree.{child_elements_of}
use Rattle.node_select.proofs.NodeWalks.{at_elem, at_other, at_end, no_element}
use Rattle.usage_docs.specs.UniqueKeys.{sibling_key, sibling_key_of}
use Rattle.edit_plans.proofs.ParentAnswers.{true_false}
use Rattle.edit_plans.proofs.TwinLemmas.{no_more_marked, none_marked}
use Rattle.edit_plans.proofs.siblings.find_child_with_key.Goals as goal
use Rattle.edit_plans.proofs.siblings.find_child_with_key.Goals.{in-Elem+else-is_sibling_with_key, in_default}

pub returns-then-is_sibling_with_key-clause-some_is_marked : goal.returns-then-is_sibling_with_key-clause-some_is_marked
returns-then-is_sibling_with_key-clause-some_is_marked c =
    let xs = child_elements_of c.args.parent.now.element.now in
    let at = at_elem c.nodes-node-items.result.now c.loop-node.node-index c.loop-node.i xs c.in-Elem.child_element c.node-item.result c.loop-node.invariant.left c.loop-node-test.true c.node-item.is c.in-Elem.is in
    let both = c.is_sibling_with_key.ensures.exact.0 c.if-is_sibling_with_key.true in
    (both.0, ap (option_and_then (sibling_key_of c.args.row c.args.parent.now.scope.now)) at.0 ∙ both.1)

pub loop-node-preserved : goal.loop-node-preserved
loop-node-preserved c =
    let xs = child_elements_of c.args.parent.now.element.now in
    let ns = c.nodes-node-items.result.now in
    let inv = c.loop-node.invariant in
    elim c.match-node.branch [
      | in-Elem+else-is_sibling_with_key w ↦
          (let at = at_elem ns c.loop-node.node-index c.loop-node.i xs w.in-Elem.child_element c.node-item.result inv.left c.loop-node-test.true c.node-item.is w.in-Elem.is in
          let lt = at.1 in
          record {
            left = rw (w.i-is, add-one, add-one) at.2;
            within = omega arith;
            small = omega arith;
            none = no_more_marked c.args.row c.args.parent.now.scope.now xs (sibling_key c.args.kind (chars c.args.value.now)) c.args.left_out c.loop-node.i c.match-node.i w.in-Elem.child_element w.i-is at.0 (λ h. true_false w.is_sibling_with_key.result (w.is_sibling_with_key.ensures.exact.1 h) w.if-is_sibling_with_key.false) inv.none;
          })
      | in_default w ↦
          (record {
            left = rw (w.i-is, add-one) (at_other ns c.loop-node.node-index c.loop-node.i xs c.node-item.result inv.left c.loop-node-test.true c.node-item.is (no_element c.node-item.result w.in_default.not-Elem));
            within = omega arith;
            small = omega arith;
            none = rw w.i-is inv.none;
          })
    ]

pub returns-clause-none_is_marked : goal.returns-clause-none_is_marked
returns-clause-none_is_marked c =
    let xs = child_elements_of c.args.parent.now.element.now in
    let inv = c.loop-node.invariant in
    let last = at_end c.nodes-node-items.result.now c.loop-node.node-index c.loop-node.i xs inv.left c.loop-node-test.false inv.within in
    λ _. none_marked c.args.row c.args.parent.now.scope.now xs (sibling_key c.args.kind (chars c.args.value.now)) c.args.left_out c.loop-node.i last inv.none
