use Rattle.std.proofs.Common.{◌≡◌, [], Ok, sym, ap, ◌∙◌, subst}
use Rattle.list_resolve.specs.Walks.{walk_after_mark, walk, content_items}
use Rattle.list_resolve.specs.inner.WalkStates.{IsWalkFault, CollectorState, empty_tally, with_items}
use Rattle.list_resolve.specs.inner.SkippedElements.{resolve_in_context}
use Rattle.list_resolve.specs.inner.Views.{context_view, scoped_element_view}
use Rattle.list_resolve.proofs.Flats.{fails_are, flat_is}
use Rattle.list_resolve.proofs.flat_lists.flat_list_of.Goals as goal

pub returns-in_err-walk_inside : goal.returns-in_err-walk_inside
returns-in_err-walk_inside c = record {
  flat_answer =
      let g = context_view c.args.ground.now in
      let s = scoped_element_view c.args.service.now in
      let same : content_items (walk_after_mark (resolve_in_context g) g.root 16 c.new.result) g.root s.kind c.from_scope-scope.result s.element.content ≡ walk (resolve_in_context g) g.root s =
      ap (λ chain. content_items (walk_after_mark (resolve_in_context g) g.root 16 chain) g.root s.kind c.from_scope-scope.result s.element.content) c.new.ensures.holds_no_places
      ∙ ap (λ scope. content_items (walk_after_mark (resolve_in_context g) g.root 16 []) g.root s.kind scope s.element.content) c.from_scope-scope.ensures.exact in
      fails_are c.from_residual.result (walk (resolve_in_context g) g.root s) c.new-collector.result.tally c.in_err-walk_inside.field-0.0 (ap (λ (x : CollectorState). x.tally) c.new-collector.ensures.holds_nothing)
      c.from_residual.ensures.1 (subst (λ items. IsWalkFault items c.new-collector.result.tally c.in_err-walk_inside.field-0.0) same c.in_err-walk_inside.ensures.gathers_walk);
}

pub returns : goal.returns
returns c = record {
  flat_answer =
      let g = context_view c.args.ground.now in
      let s = scoped_element_view c.args.service.now in
      let same : content_items (walk_after_mark (resolve_in_context g) g.root 16 c.new.result) g.root s.kind c.from_scope-scope.result s.element.content ≡ walk (resolve_in_context g) g.root s =
      ap (λ chain. content_items (walk_after_mark (resolve_in_context g) g.root 16 chain) g.root s.kind c.from_scope-scope.result s.element.content) c.new.ensures.holds_no_places
      ∙ ap (λ scope. content_items (walk_after_mark (resolve_in_context g) g.root 16 []) g.root s.kind scope s.element.content) c.from_scope-scope.ensures.exact in
      let all : c.walk_inside.new.collector.tally ≡ with_items empty_tally (walk (resolve_in_context g) g.root s) =
      c.in_ok-walk_inside.ensures.gathers_walk.0 ∙ ap (with_items c.new-collector.result.tally) same
      ∙ ap (λ (x : CollectorState). with_items x.tally (walk (resolve_in_context g) g.root s)) c.new-collector.ensures.holds_nothing in
      ap Ok c.in_ok-uris.ensures.addresses_in_order ∙ sym (flat_is (walk (resolve_in_context g) g.root s) c.walk_inside.new.collector.tally all c.into_uris.ensures.gathered_few_marks);
}
