use Rattle.std.proofs.Common.{◌∷◌, [], map, take, List, ℕ, ◌++◌, ap, sym, subst, ◌∙◌}
use Rattle.httparse.specs.Spans.{header_bytes}
use Rattle.http_wire.specs.Fields.{same_ignoring_case, field_values, IsLookupOf}
use Rattle.http_wire.proofs.FieldSteps.{value_named, value_other}
use Rattle.http_wire.proofs.framing.find_field.Goals as goal
use Rattle.http_wire.proofs.framing.find_field.Goals.{then-is_same_ignoring_case, else-is_same_ignoring_case}

pub fields-preserved : goal.fields-preserved
fields-preserved c =
    let buf : List ℕ = c.args.buf.now in
    let name : List ℕ = c.args.name.now in
    let headers = c.args.headers.now in
    let i : ℕ = c.fields.header-index in
    let values : List (List ℕ) = field_values name (map (header_bytes buf) (take i headers)) in
    let tested = sym (c.is_same_ignoring_case.ensures.exact ∙ ap (λ (l : List ℕ). same_ignoring_case l name) c.of.ensures) in
    elim c.if-is_same_ignoring_case.branch [
      | then-is_same_ignoring_case w ↦ (
          let more = value_named buf name headers i _ c.fields-test.true (tested ∙ w.if-is_same_ignoring_case.true) in
          let value = ap (λ (v : List ℕ). values ++ v ∷ []) w.of-then-is_same_ignoring_case.ensures in
          rw w.found-is (subst (IsLookupOf w.with_value-found.result) (value ∙ sym more) (w.with_value-found.ensures.finds_one_more values c.fields.invariant))
          )
      | else-is_same_ignoring_case w ↦ (
          let more = value_other buf name headers i _ c.fields-test.true (tested ∙ w.if-is_same_ignoring_case.false) in
          rw w.found-is (subst (IsLookupOf c.fields.found) (sym more) c.fields.invariant)
          )
    ]
