use Rattle.std.proofs.Common.{ℕ, refl, sym, ◌∙◌, take, count_by, add-one, arith}
use Rattle.xml_tree.specs.Tree.{child_elements_of}
use Rattle.node_select.proofs.OnePass.{only_is_selected, second_is_none}
use Rattle.node_select.specs.Selection.{is_named, step_tests}
use Rattle.node_select.specs.inner.Selection.{MatchesChild}
use Rattle.node_select.proofs.NodeWalks.{at_elem, at_other, at_end, here, only_hit, only_miss, no_element}
use Rattle.node_select.proofs.step_match.select_without_position.Goals as goal
use Rattle.node_select.proofs.step_match.select_without_position.Goals.{in-Elem, then-is_match_without_position+else-is_some, else-is_match_without_position, in_default}

pub returns-then-is_some : goal.returns-then-is_some
returns-then-is_some c = record {
  exact =
      let xs = child_elements_of c.args.element.now in
      let named = is_named c.args.scope.now c.args.step.now in
      let before : ℕ = count_by named (take c.loop-node.i xs) in
      let at = at_elem c.nodes-node-items.result.now c.loop-node.node-index c.loop-node.i xs c.in-Elem.child_element c.node-item.result c.loop-node.invariant.left c.loop-node-test.true c.node-item.is c.in-Elem.is in
      let m = here (step_tests c.args.scope.now c.args.step.now) xs c.loop-node.i before c.in-Elem.child_element at.0 refl in
      second_is_none (step_tests c.args.scope.now c.args.step.now) xs c.loop-node.i c.loop-node.found (sym c.is_some.ensures ∙ c.if-is_some.true) c.loop-node.invariant.only
      (m.0 (sym (c.is_match_without_position.ensures.exact before) ∙ c.if-is_match_without_position.true));
}

pub loop-node-preserved : goal.loop-node-preserved
loop-node-preserved c =
    let xs = child_elements_of c.args.element.now in
    let ns = c.nodes-node-items.result.now in
    let named = is_named c.args.scope.now c.args.step.now in
    let P = MatchesChild c.args.scope.now c.args.step.now xs in
    let before : ℕ = count_by named (take c.loop-node.i xs) in
    elim c.match-node.branch [
      | in-Elem w ↦
          (let at = at_elem ns c.loop-node.node-index c.loop-node.i xs w.in-Elem.child_element c.node-item.result c.loop-node.invariant.left c.loop-node-test.true c.node-item.is w.in-Elem.is in
          let m = here (step_tests c.args.scope.now c.args.step.now) xs c.loop-node.i before w.in-Elem.child_element at.0 refl in
          let lt = at.1 in
          record {
            left = rw (w.i-is, add-one, add-one) at.2;
            within = omega arith;
            small = omega arith;
            only = elim w.if-is_match_without_position.branch [
              | then-is_match_without_position+else-is_some v ↦ only_hit P c.loop-node.i c.match-node.i c.loop-node.found c.match-node.found w.i-is (w.found-is ∙ v.found-is) (sym v.is_some.ensures ∙ v.if-is_some.false) c.loop-node.invariant.only (m.0 (sym (w.is_match_without_position.ensures.exact before) ∙ v.if-is_match_without_position.true))
              | else-is_match_without_position v ↦ only_miss P c.loop-node.i c.match-node.i c.loop-node.found c.match-node.found _ w.i-is (w.found-is ∙ v.found-is) c.loop-node.invariant.only m (sym (w.is_match_without_position.ensures.exact before) ∙ v.if-is_match_without_position.false)
            ];
          })
      | in_default w ↦
          (record {
            left = rw (w.i-is, add-one) (at_other ns c.loop-node.node-index c.loop-node.i xs c.node-item.result c.loop-node.invariant.left c.loop-node-test.true c.node-item.is (no_element c.node-item.result w.in_default.not-Elem));
            within = omega arith;
            small = omega arith;
            only = rw (w.i-is, w.found-is) c.loop-node.invariant.only;
          })
    ]

pub returns : goal.returns
returns c = record {
  exact =
      let xs = child_elements_of c.args.element.now in
      let end = at_end c.nodes-node-items.result.now c.loop-node.node-index c.loop-node.i xs c.loop-node.invariant.left c.loop-node-test.false c.loop-node.invariant.within in
      only_is_selected (step_tests c.args.scope.now c.args.step.now) xs c.loop-node.i c.loop-node.found end c.loop-node.invariant.only;
}
