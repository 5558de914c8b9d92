use Rattle.std.proofs.Common.{ℕ, ◌+◌, ◌≡◌, Bool, ◌&&◌, List, Some, cond, sym, ◌∙◌, ap, add-one, arith}
use Rattle.xml_tree.specs.Tree.{Tree, child_elements_of}
use Rattle.xml_names.specs.declared.names.Decl.{Decl}
use Rattle.node_select.specs.declared.selector.Step.{Step}
use Rattle.node_select.specs.StepSelection.{child_matches, is_at_position}
use Rattle.node_select.proofs.OnePass.{only_is_selected, second_is_none}
use Rattle.node_select.specs.Selection.{is_named, is_tested, step_tests}
use Rattle.node_select.specs.inner.Selection.{MatchesChild}
use Rattle.node_select.proofs.NodeWalks.{at_elem, at_other, at_end, count_next, here, only_hit, only_miss, at_most_one, no_element}
use Rattle.node_select.proofs.step_match.select_by_position.Goals as goal
use Rattle.node_select.proofs.step_match.select_by_position.Goals.{in-Elem, then-is_match_if+else-is_some, else-is_match_if, in_default}

-- the match of a child whose name was already tested
matched : (s : List (List Decl)) (step : Step) (before : ℕ) (child_element : Tree) (named r : Bool) → named ≡ is_named s step child_element → r ≡ (named && (is_at_position step.position before && is_tested s step child_element))
    → child_matches (step_tests s step) before (Some child_element) ≡ r
matched s step before child_element named r same is = sym (is ∙ ap (λ b. b && (is_at_position step.position before && is_tested s step child_element)) same)

pub returns-then-is_some : goal.returns-then-is_some
returns-then-is_some c = record {
  exact =
      let xs = child_elements_of c.args.element.now in
      let at = at_elem c.nodes-node-items.result.now c.loop-node.node-index c.loop-node.i xs c.in-Elem.child_element c.node-item.result c.loop-node.invariant.left c.loop-node-test.true c.node-item.is c.in-Elem.is in
      let m = here (step_tests c.args.scope.now c.args.step.now) xs c.loop-node.i c.loop-node.before c.in-Elem.child_element at.0 c.loop-node.invariant.counted in
      second_is_none (step_tests c.args.scope.now c.args.step.now) xs c.loop-node.i c.loop-node.found (sym c.is_some.ensures ∙ c.if-is_some.true) c.loop-node.invariant.only (m.0 (matched c.args.scope.now c.args.step.now c.loop-node.before c.in-Elem.child_element _ _ c.is_named-named.ensures.exact c.is_match_if.ensures.exact ∙ c.if-is_match_if.true));
}

pub loop-node-preserved : goal.loop-node-preserved
loop-node-preserved c =
    let xs = child_elements_of c.args.element.now in
    let ns = c.nodes-node-items.result.now in
    let named = is_named c.args.scope.now c.args.step.now in
    let P = MatchesChild c.args.scope.now c.args.step.now xs in
    elim c.match-node.branch [
      | in-Elem w ↦
          (let at = at_elem ns c.loop-node.node-index c.loop-node.i xs w.in-Elem.child_element c.node-item.result c.loop-node.invariant.left c.loop-node-test.true c.node-item.is w.in-Elem.is in
          let m = here (step_tests c.args.scope.now c.args.step.now) xs c.loop-node.i c.loop-node.before w.in-Elem.child_element at.0 c.loop-node.invariant.counted in
          let lt = at.1 in
          let one_more : Bool → ℕ = λ b. c.loop-node.before + cond b 1 0 in
          record {
            left = rw (w.i-is, add-one, add-one) at.2;
            within = omega arith;
            small = omega arith;
            counted = count_next named xs c.loop-node.i c.match-node.i c.loop-node.before c.match-node.before w.in-Elem.child_element at.0 at.1 c.loop-node.invariant.counted w.i-is (w.before-is ∙ w.add_match-before.ensures.counts_one_more ∙ ap one_more w.is_named-named.ensures.exact);
            few = omega (arith, w.before-is, w.add_match-before.ensures.counts_one_more, at_most_one w.is_named-named.result);
            only = elim w.if-is_match_if.branch [
              | then-is_match_if+else-is_some v ↦ only_hit P c.loop-node.i c.match-node.i c.loop-node.found c.match-node.found w.i-is (w.found-is ∙ v.found-is) (sym v.is_some.ensures ∙ v.if-is_some.false) c.loop-node.invariant.only (m.0 (matched c.args.scope.now c.args.step.now c.loop-node.before w.in-Elem.child_element _ _ w.is_named-named.ensures.exact w.is_match_if.ensures.exact ∙ v.if-is_match_if.true))
              | else-is_match_if v ↦ only_miss P c.loop-node.i c.match-node.i c.loop-node.found c.match-node.found _ w.i-is (w.found-is ∙ v.found-is) c.loop-node.invariant.only m (matched c.args.scope.now c.args.step.now c.loop-node.before w.in-Elem.child_element _ _ w.is_named-named.ensures.exact w.is_match_if.ensures.exact ∙ v.if-is_match_if.false)
            ];
          })
      | in_default w ↦
          (record {
            left = rw (w.i-is, add-one) (at_other ns c.loop-node.node-index c.loop-node.i xs c.node-item.result c.loop-node.invariant.left c.loop-node-test.true c.node-item.is (no_element c.node-item.result w.in_default.not-Elem));
            within = omega arith;
            small = omega arith;
            counted = rw (w.i-is, w.before-is) c.loop-node.invariant.counted;
            few = omega arith;
            only = rw (w.i-is, w.found-is) c.loop-node.invariant.only;
          })
    ]

pub returns : goal.returns
returns c = record {
  exact =
      let xs = child_elements_of c.args.element.now in
      let end = at_end c.nodes-node-items.result.now c.loop-node.node-index c.loop-node.i xs c.loop-node.invariant.left c.loop-node-test.false c.loop-node.invariant.within in
      only_is_selected (step_tests c.args.scope.now c.args.step.now) xs c.loop-node.i c.loop-node.found end c.loop-node.invariant.only;
}
