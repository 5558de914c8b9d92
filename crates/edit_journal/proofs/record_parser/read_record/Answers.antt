use Rattle.std.proofs.Common.{◌≡◌, List, ℕ, length, ap, ◌∙◌, subst}
use Rattle.http_wire.specs.declared.request.Request.{Request}
use Rattle.edit_journal.specs.inner.RecordParts.{ReadsPart, IsRecordContent, IsRecordOf}
use Rattle.edit_journal.proofs.Blocks.{behind}
use Rattle.edit_journal.proofs.Fields.{stops_with}
use Rattle.edit_journal.proofs.Contents.{record_no_number, record_on}
use Rattle.edit_journal.proofs.record_parser.read_record.Goals as goal

pub returns-in_err-len : goal.returns-in_err-len
returns-in_err-len c = record {
  reads_rule =
      stops_with (λ (r : Request). r) IsRecordOf c.args.bytes.now c.from_residual.result c.in_err-len.field-0.0 c.from_residual.ensures.1
      (record_no_number (λ (r : Request). r) c.args.bytes.now c.in_err-len.field-0.0 c.in_err-len.ensures.reads_rule);
}

pub returns : goal.returns
returns c = record {
  reads_rule =
      let e = c.in_ok-len.ensures.reads_rule in
      let read_rest : c.bytes_after.result.now ≡ e.1 = c.bytes_after.ensures.exact ∙ behind c.args.bytes.now e.0 e.1 4 e.2 (ap length e.3.0) in
      record_on c.args.bytes.now e.0 e.1 c.in_ok-len.len c.read_content.result e.2 e.3
      (subst (λ (l : List ℕ). ReadsPart (λ (r : Request). r) (IsRecordContent c.in_ok-len.len) l c.read_content.result) read_rest c.read_content.ensures.reads_rule);
}
