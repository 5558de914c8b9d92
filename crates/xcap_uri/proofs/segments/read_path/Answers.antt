use Rattle.std.proofs.Common.{sym, ◌∙◌}
use Rattle.std.proofs.lemmas.Result.{err_from_is_err_and}
use Rattle.xcap_uri.specs.Roots.{slash}
use Rattle.xcap_uri.specs.readers.Targets.{parsed_path}
use Rattle.xcap_uri.proofs.Pieces.{behind_shorter}
use Rattle.xcap_uri.proofs.SegmentLemmas.{fails, at_separator, at_last, at_next}
use Rattle.xcap_uri.proofs.segments.read_path.Goals as goal

pub returns-in_err-segment : goal.returns-in_err-segment
returns-in_err-segment c = record {
  reads_rule =
      let p = err_from_is_err_and c.from_residual.result c.from_residual.ensures.1 in
      rw (p.1, p.2) (fails (parsed_path c.args.path.now) c.segments.segments.items c.segments.rest.now c.cut.result.0.now c.cut.ensures.front_before_stop c.segments.invariant c.in_err-segment.field-0.0 c.in_err-segment.ensures.exact);
}

pub returns-then-is_separator : goal.returns-then-is_separator
returns-then-is_separator c = record {
  reads_rule =
      at_separator (parsed_path c.args.path.now) c.segments.segments.items c.segments.rest.now c.cut.result.0.now c.cut.ensures.front_before_stop c.segments.invariant c.in_ok-segment.segment c.in_ok-segment.ensures.exact c.or_empty.result.now
      (sym c.is_separator.ensures.exact ∙ c.if-is_separator.true) (rw c.cut.ensures.rest_after_stop at c.or_empty.ensures.exact);
}

pub returns-in-None : goal.returns-in-None
returns-in-None c = record {
  reads_rule =
      rw c.in_ok-push.ensures.items
      (at_last (parsed_path c.args.path.now) c.segments.segments.items c.segments.rest.now c.cut.result.0.now c.cut.ensures.front_before_stop c.segments.invariant c.in_ok-segment.segment c.in_ok-segment.ensures.exact
      (sym c.is_separator.ensures.exact ∙ c.if-is_separator.false) (sym (rw c.in-None.is at c.cut.ensures.rest_after_stop)));
}

pub segments-preserved : goal.segments-preserved
segments-preserved c =
    rw c.in_ok-push.ensures.items
    (at_next (parsed_path c.args.path.now) c.segments.segments.items c.segments.rest.now c.cut.result.0.now c.cut.ensures.front_before_stop c.segments.invariant c.in_ok-segment.segment c.in_ok-segment.ensures.exact c.in-Some.tail.now
    (sym c.is_separator.ensures.exact ∙ c.if-is_separator.false) (sym (rw c.in-Some.is at c.cut.ensures.rest_after_stop)))

pub segments-smaller : goal.segments-smaller
segments-smaller c = behind_shorter slash c.segments.rest.now c.in-Some.tail.now (sym (rw c.in-Some.is at c.cut.ensures.rest_after_stop))
