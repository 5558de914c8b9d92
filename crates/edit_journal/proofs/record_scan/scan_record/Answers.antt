use Rattle.std.proofs.Common.{Err, subst, ◌∙◌}
use Rattle.http_wire.specs.declared.request.Request.{Request}
use Rattle.edit_journal.specs.declared.field_parsers.FieldError.{FieldError}
use Rattle.edit_journal.specs.inner.RecordParts.{ReadsPart, IsRecordOf}
use Rattle.edit_journal.proofs.Fronts.{front_whole, front_torn, front_damaged}
use Rattle.edit_journal.proofs.record_scan.scan_record.Goals as goal

pub returns-in-Ok : goal.returns-in-Ok
returns-in-Ok c =
    let whole = front_whole c.args.bytes.now c.in-Ok.request c.in-Ok.ensures.reads_rule in record {
      record_front =
          (whole.0, whole.1, c.record_len.ensures.exact ∙ whole.2);
    }

pub returns-in-Err-Open : goal.returns-in-Err-Open
returns-in-Err-Open c = record {
  record_front =
      front_torn c.args.bytes.now (subst (λ (s : FieldError). ReadsPart (λ (r : Request). r) IsRecordOf c.args.bytes.now (Err s)) c.in-Err-Open.field-0-is c.in-Err-Open.ensures.reads_rule);
}

pub returns-in-Err-Wrong : goal.returns-in-Err-Wrong
returns-in-Err-Wrong c = record {
  record_front =
      front_damaged c.args.bytes.now (subst (λ (s : FieldError). ReadsPart (λ (r : Request). r) IsRecordOf c.args.bytes.now (Err s)) c.in-Err-Wrong.field-0-is c.in-Err-Wrong.ensures.reads_rule);
}
