use Rattle.std.proofs.Common.{◌≡◌, ◌-◌, List, ℕ, length, drop, Ok, Err, ap, ◌∙◌, subst}
use Rattle.http_wire.specs.declared.request.Field.{Field}
use Rattle.edit_journal.specs.inner.RecordParts.{ReadsPart, IsFieldsAndBody, IsRestOfContent}
use Rattle.edit_journal.proofs.Blocks.{behind}
use Rattle.edit_journal.proofs.Fields.{stops_with}
use Rattle.edit_journal.proofs.Rests.{rest_no_count, rest_stops, bounds_are}
use Rattle.edit_journal.proofs.record_parser.read_rest.Goals as goal

pub returns-in_err-count : goal.returns-in_err-count
returns-in_err-count c = record {
  reads_rule =
      let seen : List Field × List ℕ → List Field × List ℕ = λ value. (value.0, value.1) in
      stops_with seen (IsRestOfContent c.args.left) c.args.bytes.now c.from_residual.result c.in_err-count.field-0.0 c.from_residual.ensures.1
      (rest_no_count seen c.args.bytes.now c.args.left c.in_err-count.field-0.0 c.requires.lower_bound
      (bounds_are c.args.bytes.now c.args.left c.min_field_count.result c.min.result (Err c.in_err-count.field-0.0) c.min_field_count.ensures.exact c.min.ensures c.in_err-count.ensures.reads_rule));
}

pub returns-in_err-body : goal.returns-in_err-body
returns-in_err-body c = record {
  reads_rule =
      let seen : List Field × List ℕ → List Field × List ℕ = λ value. (value.0, value.1) in
      let e = bounds_are c.args.bytes.now c.args.left c.min_field_count.result c.min.result (Ok c.in_ok-count.count) c.min_field_count.ensures.exact c.min.ensures c.in_ok-count.ensures.reads_rule in
      let read_rest : c.bytes_after.result.now ≡ e.1 = c.bytes_after.ensures.exact ∙ behind c.args.bytes.now e.0 e.1 2 e.2 (ap length e.3.0) in
      let seen' : List ℕ → List Field × List ℕ = λ body. (drop (length c.empty-fields.result) c.read_fields_and_body.new.fields, body) in
      stops_with seen (IsRestOfContent c.args.left) c.args.bytes.now c.from_residual-in_err-body.result c.in_err-body.field-0.0 c.from_residual-in_err-body.ensures.1
      (rest_stops seen seen' c.args.bytes.now e.0 e.1 c.in_ok-count.count c.args.left c.in_err-body.field-0.0 c.requires.lower_bound e.2 e.3
      (subst (λ (l : List ℕ). ReadsPart seen' (IsFieldsAndBody c.in_ok-count.count (c.args.left - 2)) l (Err c.in_err-body.field-0.0)) read_rest c.in_err-body.ensures.reads_rule));
}
