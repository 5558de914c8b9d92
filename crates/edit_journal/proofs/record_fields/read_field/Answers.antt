use Rattle.std.proofs.Common.{◌≡◌, ◌+◌, ◌-◌, List, ℕ, length, Ok, Err, ap, sym, ◌∙◌, subst, arith, length-append}
use Rattle.std.specs.Borrow.{Bor}
use Rattle.std.proofs.lemmas.Result.{err_from_is_err_and}
use Rattle.http_wire.specs.declared.request.Field.{Field}
use Rattle.edit_journal.specs.inner.RecordParts.{ReadsPart, IsFieldValue, IsFieldPart}
use Rattle.edit_journal.proofs.Blocks.{behind}
use Rattle.edit_journal.proofs.Fields.{field_no_name, field_no_value, field_whole}
use Rattle.edit_journal.proofs.Lengths.{block_length}
use Rattle.edit_journal.proofs.record_fields.read_field.Goals as goal

pub returns-in_err-token : goal.returns-in_err-token
returns-in_err-token c = record {
  reads_rule =
      let p = err_from_is_err_and c.from_residual.result c.from_residual.ensures.1 in
      rw (p.1, p.2) (field_no_name c.args.bytes.now c.args.others c.args.left c.in_err-token.field-0.0 c.requires.room_left c.in_err-token.ensures.reads_rule);
}

pub bytes_after-rest-requires : goal.bytes_after-rest-requires
bytes_after-rest-requires c =
    let e = c.in_ok-token.ensures.reads_rule in
    omega (arith, ap length e.2, length-append e.0 e.1, ap length e.3.0.0, block_length c.in_ok-token.token.now)

pub returns-in_err-piece : goal.returns-in_err-piece
returns-in_err-piece c = record {
  reads_rule =
      let p = err_from_is_err_and c.from_residual-in_err-piece.result c.from_residual-in_err-piece.ensures.1 in
      let e = c.in_ok-token.ensures.reads_rule in
      let token = c.in_ok-token.token.now in
      let rest : c.bytes_after-rest.result.now ≡ e.1 = c.bytes_after-rest.ensures.exact ∙ behind c.args.bytes.now e.0 e.1 (4 + length token) e.2 (ap length e.3.0.0 ∙ block_length token) in
      rw (p.1, p.2) (field_no_value c.args.bytes.now e.0 e.1 token c.args.others c.args.left c.in_err-piece.field-0.0 c.requires.left_bounded e.2 e.3
      (subst (λ (l : List ℕ). ReadsPart (λ (piece : Bor (List ℕ)). piece.now) (IsFieldValue c.args.others (c.args.left - 4 - length token)) l (Err c.in_err-piece.field-0.0)) rest c.in_err-piece.ensures.reads_rule));
}

pub returns : goal.returns
returns c = record {
  reads_rule =
      let e = c.in_ok-token.ensures.reads_rule in
      let f = c.in_ok-piece.ensures.reads_rule in
      let token = c.in_ok-token.token.now in
      let piece = c.in_ok-piece.piece.now in
      let rest : c.bytes_after-rest.result.now ≡ e.1 = c.bytes_after-rest.ensures.exact ∙ behind c.args.bytes.now e.0 e.1 (4 + length token) e.2 (ap length e.3.0.0 ∙ block_length token) in
      subst (λ (field : Field). ReadsPart (λ (f : Field). f) (IsFieldPart c.args.others c.args.left) c.args.bytes.now (Ok field)) (sym c.in_ok-new_field.ensures.ok)
      (field_whole c.args.bytes.now e.0 e.1 token f.0 f.1 piece c.args.others c.args.left e.2 e.3 (sym rest ∙ f.2) f.3);
}
