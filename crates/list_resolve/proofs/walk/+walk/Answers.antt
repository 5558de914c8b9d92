use Rattle.std.proofs.Common.{◌≡◌, ◌+◌, ◌-◌, [], ◌∷◌, ◌++◌, List, drop, Some, sym, ap, subst, ◌∙◌, option_map, arith}
use Rattle.list_resolve.specs.References.{reference_of}
use Rattle.list_resolve.specs.Walks.{Item, mark, walk_after_mark, content_items}
use Rattle.list_resolve.specs.inner.WalkStates.{IsWalkFault, with_items}
use Rattle.list_resolve.specs.inner.ChildItems.{child_items}
use Rattle.list_resolve.specs.inner.SkippedElements.{CollectsItems, resolve_in_context}
use Rattle.list_resolve.specs.inner.Views.{context_view, resolved_view, scoped_element_view}
use Rattle.list_resolve.proofs.SkippedElements.{is_passed, once_passed}
use Rattle.list_resolve.proofs.Walks.{all_nodes, at_elem, behind_left, fails_before, fails_in_part, hands_on, lead_items, led_items, nodes_items, reference_items}
use Rattle.list_resolve.proofs.walk.+walk.Goals as goal

pub walk_inside-loop-node-init : goal.walk_inside-loop-node-init
walk_inside-loop-node-init t c = record {
  gathered =
      let g = context_view c.args.ground.now in
      ap (with_items c.args.collector.now.tally)
      (all_nodes (walk_after_mark (resolve_in_context g) g.root c.args.left c.args.chain.now) g.root c.args.row c.args.scope.now c.nodes-node-items.result.now c.args.element.now.content c.nodes-node-items.ensures.nodes_content);
  sound = c.requires.is_sound;
}

pub walk_inside-returns-in_err-walk_child_element : goal.walk_inside-returns-in_err-walk_child_element
walk_inside-returns-in_err-walk_child_element t c = record {
  gathers_walk =
      let g = context_view c.args.ground.now in
      let b = walk_after_mark (resolve_in_context g) g.root c.args.left c.args.chain.now in
      let ns = c.nodes-node-items.result.now in
      let whole = content_items b g.root c.args.row c.args.scope.now c.args.element.now.content in
      let child_element = child_items b g.root c.args.row c.args.scope.now c.in-Elem.child_element in
      let rest = nodes_items b g.root c.args.row c.args.scope.now (drop (c.loop-node.node-index + 1) ns) in
      let parts = at_elem b g.root c.args.row c.args.scope.now ns c.loop-node.node-index c.node-item.result c.in-Elem.child_element c.loop-node-test.true c.node-item.is c.in-Elem.is in
      let e : with_items c.loop-node.collector.tally (child_element ++ rest) ≡ with_items c.args.collector.now.tally whole = ap (with_items c.loop-node.collector.tally) (sym parts) ∙ c.loop-node.invariant.gathered in
      hands_on g c.from_residual.result whole c.args.collector.now c.walk_child_element.new.collector c.in_err-walk_child_element.field-0.0 c.from_residual.ensures.1
      (fails_before child_element rest whole c.loop-node.collector.tally c.args.collector.now.tally c.in_err-walk_child_element.field-0.0 e c.in_err-walk_child_element.ensures.gathers_child);
}

pub walk_after_mark-returns-in-Some : goal.walk_after_mark-returns-in-Some
walk_after_mark-returns-in-Some t c = record {
  gathers_reference =
      let g = context_view c.args.ground.now in
      let led : resolve_in_context g c.args.reference.now ≡ Some (resolved_view c.in-Some.lead) = sym c.in_ok-resolve_reference.ensures.exact ∙ ap (option_map resolved_view) c.in-Some.is in
      let e : walk_after_mark (resolve_in_context g) g.root c.args.left c.args.chain.now c.args.reference.now ≡ lead_items (walk_after_mark (resolve_in_context g) g.root (c.args.left - 1)) g.root c.args.chain.now (resolved_view c.in-Some.lead) =
      behind_left (resolve_in_context g) g.root c.args.left c.args.chain.now c.args.reference.now (omega arith) ∙ ap (led_items (walk_after_mark (resolve_in_context g) g.root (c.args.left - 1)) g.root c.args.chain.now) led in
      subst (λ (items : List Item). CollectsItems g items c.args.collector.now c.walk_resolved_reference.new.collector c.walk_resolved_reference.result) (sym e) c.walk_resolved_reference.ensures.gathers_lead;
}

pub walk_unless_passed-returns-then-has_passed : goal.walk_unless_passed-returns-then-has_passed
walk_unless_passed-returns-then-has_passed t c = record {
  gathers_element =
      let g = context_view c.args.ground.now in
      once_passed (walk_after_mark (resolve_in_context g) g.root c.args.left (c.args.lead.place ∷ c.args.chain.now)) g c.args.collector.now c.args.lead.place (scoped_element_view c.args.lead.scoped_element) c.requires.place_exists
      (sym c.has_passed.ensures.exact ∙ c.if-has_passed.true) c.requires.is_sound;
}

pub walk_unless_passed-record_if_unmarked-requires-clause-passed : goal.walk_unless_passed-record_if_unmarked-requires-clause-passed
walk_unless_passed-record_if_unmarked-requires-clause-passed t c = λ same.
    let g = context_view c.args.ground.now in
    is_passed (walk_after_mark (resolve_in_context g) g.root c.args.left (c.args.lead.place ∷ c.args.chain.now)) g c.args.collector.now.tally c.walk_with_place.new.collector.tally c.args.lead.place (scoped_element_view c.args.lead.scoped_element) c.requires.place_exists
    c.in_ok-walk_with_place.ensures.gathers_element.0 (same ∙ c.marks-marks.ensures.exact)

pub walk_reference-returns-in_err-add_mark : goal.walk_reference-returns-in_err-add_mark
walk_reference-returns-in_err-add_mark t c = record {
  gathers_reference =
      let g = context_view c.args.ground.now in
      let b = walk_after_mark (resolve_in_context g) g.root c.args.left c.args.chain.now in
      let is : reference_of g.root c.args.kind c.args.element.now.attrs c.args.element.now.content ≡ Some c.in-Some.reference = sym c.in_ok-reference.ensures.ok ∙ c.in-Some.is in
      let fails = fails_in_part (mark ∷ []) (b c.in-Some.reference) c.args.collector.now.tally c.in_err-add_mark.field-0.0 c.in_err-add_mark.ensures.err_too_many in
      hands_on g c.from_residual-in_err-add_mark.result (reference_items b (reference_of g.root c.args.kind c.args.element.now.attrs c.args.element.now.content)) c.args.collector.now c.add_mark.new.self c.in_err-add_mark.field-0.0 c.from_residual-in_err-add_mark.ensures.1
      (subst (λ items. IsWalkFault items c.args.collector.now.tally c.in_err-add_mark.field-0.0) (sym (ap (reference_items b) is)) fails);
}
