use Rattle.std.proofs.Common.{List, ℕ, ◌+◌, ap, sym, ◌∙◌}
use Rattle.std.specs.Prelude.{codes}
use Rattle.http_wire.specs.Fields.{same_ignoring_case, has_close_option, asks_to_close}
use Rattle.http_wire.proofs.FieldSteps.{any_named, any_other, any_from_front}
use Rattle.http_wire.proofs.framing.asks_to_close.Goals as goal
use Rattle.http_wire.proofs.framing.asks_to_close.Goals.{else-is_same_ignoring_case-via-then-is_same_ignoring_case+else-has_close_option, else-is_same_ignoring_case-via-else-is_same_ignoring_case}

pub returns-then-has_close_option : goal.returns-then-has_close_option
unfolding asks_to_close
returns-then-has_close_option c = record {
  exact =
      let tested = sym (c.is_same_ignoring_case.ensures.exact ∙ ap (λ (l : List ℕ). same_ignoring_case l (codes "connection")) c.of.ensures) ∙ c.if-is_same_ignoring_case.true in
      let one = any_named has_close_option c.args.buf.now (codes "connection") c.args.headers.now c.fields.header-index _ c.fields-test.true c.fields.invariant tested in
      let closes = sym (c.has_close_option.ensures.exact ∙ ap has_close_option c.of-then-is_same_ignoring_case.ensures) ∙ c.if-has_close_option.true in
      sym (any_from_front has_close_option c.args.buf.now (codes "connection") c.args.headers.now (c.fields.header-index + 1) (one ∙ closes));
}

pub fields-preserved : goal.fields-preserved
fields-preserved c =
    let tested = sym (c.is_same_ignoring_case.ensures.exact ∙ ap (λ (l : List ℕ). same_ignoring_case l (codes "connection")) c.of.ensures) in
    elim c.else-is_same_ignoring_case.branch [
      | else-is_same_ignoring_case-via-then-is_same_ignoring_case+else-has_close_option w ↦ (
          let one = any_named has_close_option c.args.buf.now (codes "connection") c.args.headers.now c.fields.header-index _ c.fields-test.true c.fields.invariant (tested ∙ w.if-is_same_ignoring_case.true) in
          one ∙ sym (w.has_close_option.ensures.exact ∙ ap has_close_option w.of-then-is_same_ignoring_case.ensures) ∙ w.if-has_close_option.false
          )
      | else-is_same_ignoring_case-via-else-is_same_ignoring_case w ↦
          any_other has_close_option c.args.buf.now (codes "connection") c.args.headers.now c.fields.header-index _ c.fields-test.true c.fields.invariant (tested ∙ w.if-is_same_ignoring_case.false)
    ]
