use Rattle.std.proofs.Common.{◌≡◌, ◌+◌, ℕ, Bool, suc, cond, sym, ap, ◌∙◌, add-one, arith}
use Rattle.node_select.specs.InsertionPoints.{IsLawfulInsertion, plan_with_gap}
use Rattle.node_select.proofs.GapPlans.{plan_more}
use Rattle.xml_tree.specs.Tree.{child_elements_of}
use Rattle.node_select.specs.Selection.{step_tests}
use Rattle.node_select.proofs.NodeWalks.{at_elem, at_other, at_end, count_next, at_most_one, no_element}
use Rattle.usage_docs.specs.readers.ContentParts.{end_part}
use Rattle.edit_plans.specs.inner.Neighbours.{FitsInsertionPoint}
use Rattle.edit_plans.specs.declared.insertion_points.NoInsertionPoint.TheVariants.{Unlawful, Invalid}
use Rattle.edit_plans.proofs.SideLemmas.{after_kid, before_kid, end_behind, fits_is, lawful_here, plan_at}
use Rattle.edit_plans.proofs.insertion_points.last_gap.Goals as goal
use Rattle.edit_plans.proofs.insertion_points.last_gap.Goals.{in-Elem, in_default}

pub loop-node-preserved : goal.loop-node-preserved
loop-node-preserved c =
    let xs = child_elements_of c.args.parent.now.element.now in
    let content = c.args.parent.now.element.now.content in
    let ns = c.nodes-node-items.result.now in
    let new = c.args.new.now in
    let scope = c.args.parent.now.scope.now in
    let tests = step_tests scope c.args.step.now in
    let inv = c.loop-node.invariant in
    let i = c.loop-node.i in
    elim c.match-node.branch [
      | in-Elem w ↦
          (let child_element = w.in-Elem.child_element in
          let at = at_elem ns c.loop-node.node-index i xs child_element c.node-item.result inv.left c.loop-node-test.true c.node-item.is w.in-Elem.is in
          let lt = at.1 in
          let one_more : Bool → ℕ = λ b. c.loop-node.before + cond b 1 0 in
          let part = w.part_in-next.ensures.child_part in
          let step : c.match-node.i ≡ suc i = w.i-is ∙ add-one i in
          let lawful = lawful_here tests xs new i c.loop-node.before w.is_at_position-lawful.result inv.within c.requires.name_matches c.requires.test_matches c.requires.position_free inv.counted w.is_at_position-lawful.ensures.exact in
          let valid = fits_is c.args.parent.now.kind scope content new i c.args.itself w.may_stand_between-valid.result c.loop-node.prev c.part_in-part.result w.part_in-next.result c.requires.itself_valid c.part_in-part.ensures.child_part inv.prev (after_kid c.args.parent.now.kind scope content i child_element w.part_in-next.result at.0 part) w.may_stand_between-valid.ensures.exact in
          record {
            left = rw (w.i-is, add-one, add-one) at.2;
            within = omega arith;
            small = omega arith;
            counted = count_next tests.named xs i c.match-node.i c.loop-node.before c.match-node.before child_element at.0 at.1 inv.counted w.i-is (w.before-is ∙ w.count_if-before.ensures.counts_one_more ∙ ap one_more w.matches_name.ensures.passes_name_test);
            few = omega (arith, w.before-is, w.count_if-before.ensures.counts_one_more, at_most_one w.matches_name.result);
            prev = before_kid c.args.parent.now.kind scope content i c.match-node.i child_element c.match-node.prev step at.0 (w.prev-is ∙ part);
            plan = plan_at Unlawful Invalid (IsLawfulInsertion tests xs new) (FitsInsertionPoint c.args.parent.now.kind scope content new) (i + 1) c.match-node.i (plan_with_gap Invalid c.loop-node.answer i w.is_at_position-lawful.result w.may_stand_between-valid.result) c.match-node.answer w.i-is (w.answer-is ∙ w.gap_or_refusal-answer.ensures.exact) (plan_more Unlawful Invalid (IsLawfulInsertion tests xs new) (FitsInsertionPoint c.args.parent.now.kind scope content new) i c.loop-node.answer w.is_at_position-lawful.result w.may_stand_between-valid.result inv.plan lawful valid);
          })
      | in_default w ↦
          (record {
            left = rw (w.i-is, add-one) (at_other ns c.loop-node.node-index i xs c.node-item.result inv.left c.loop-node-test.true c.node-item.is (no_element c.node-item.result w.in_default.not-Elem));
            within = omega arith;
            small = omega arith;
            counted = rw (w.i-is, w.before-is) inv.counted;
            few = omega arith;
            prev = rw (w.i-is, w.prev-is) inv.prev;
            plan = plan_at Unlawful Invalid (IsLawfulInsertion tests xs new) (FitsInsertionPoint c.args.parent.now.kind scope content new) i c.match-node.i c.loop-node.answer c.match-node.answer w.i-is w.answer-is inv.plan;
          })
    ]

pub returns : goal.returns
returns c = record {
  lawful_plan =
      let xs = child_elements_of c.args.parent.now.element.now in
      let content = c.args.parent.now.element.now.content in
      let new = c.args.new.now in
      let scope = c.args.parent.now.scope.now in
      let tests = step_tests scope c.args.step.now in
      let inv = c.loop-node.invariant in
      let i = c.loop-node.i in
      let last = at_end c.nodes-node-items.result.now c.loop-node.node-index i xs inv.left c.loop-node-test.false inv.within in
      let lawful = lawful_here tests xs new i c.loop-node.before c.is_at_position-lawful-2.result inv.within c.requires.name_matches c.requires.test_matches c.requires.position_free inv.counted c.is_at_position-lawful-2.ensures.exact in
      let valid = fits_is c.args.parent.now.kind scope content new i c.args.itself c.may_stand_between-valid-2.result c.loop-node.prev c.part_in-part.result end_part c.requires.itself_valid c.part_in-part.ensures.child_part inv.prev (end_behind c.args.parent.now.kind scope content i last) c.may_stand_between-valid-2.ensures.exact in
      plan_at Unlawful Invalid (IsLawfulInsertion tests xs new) (FitsInsertionPoint c.args.parent.now.kind scope content new) (i + 1) _ (plan_with_gap Invalid c.loop-node.answer i c.is_at_position-lawful-2.result c.may_stand_between-valid-2.result) c.gap_or_refusal.result (ap (λ (n : ℕ). n + 1) (sym last)) c.gap_or_refusal.ensures.exact
      (plan_more Unlawful Invalid (IsLawfulInsertion tests xs new) (FitsInsertionPoint c.args.parent.now.kind scope content new) i c.loop-node.answer c.is_at_position-lawful-2.result c.may_stand_between-valid-2.result inv.plan lawful valid);
}
