use Rattle.std.proofs.Common.{◌≡◌, ◌+◌, ◌-◌, ◌++◌, List, ℕ, length, Ok, Err, ap, sym, ◌∙◌, subst, arith, append_assoc, length-append}
use Rattle.xml_names.specs.contracts.text.Text.{the_view}
use Rattle.std.specs.Borrow.{Bor}
use Rattle.http_wire.specs.declared.request.Field.{Field}
use Rattle.http_wire.specs.declared.request.Request.{Request}
use Rattle.edit_journal.specs.inner.RecordParts.{ReadsPart, IsBlockOfLength, IsRestOfContent, IsRecordContent}
use Rattle.edit_journal.proofs.Blocks.{behind}
use Rattle.edit_journal.proofs.Lengths.{block_length}
use Rattle.edit_journal.proofs.Fields.{stops_with}
use Rattle.edit_journal.proofs.Contents.{content_no_method, content_no_target, content_no_rest, content_whole, request_with}
use Rattle.edit_journal.proofs.record_parser.read_content.Goals as goal

pub returns-in_err-method : goal.returns-in_err-method
returns-in_err-method c = record {
  reads_rule =
      stops_with (λ (r : Request). r) (IsRecordContent c.args.len) c.args.bytes.now c.from_residual.result c.in_err-method.field-0.0 c.from_residual.ensures.1
      (content_no_method (λ (r : Request). r) c.args.bytes.now c.args.len c.in_err-method.field-0.0 c.requires.lower_bound c.requires.upper_bound c.in_err-method.ensures.reads_rule);
}

pub returns-in_err-target : goal.returns-in_err-target
returns-in_err-target c = record {
  reads_rule =
      let e = c.in_ok-method.ensures.reads_rule in
      let tail : c.bytes_after.result.now ≡ e.1 = c.bytes_after.ensures.exact ∙ behind c.args.bytes.now e.0 e.1 1 e.2 (ap length e.3.0) in
      let seen : Bor (List ℕ) → List ℕ = λ piece. piece.now in
      stops_with (λ (r : Request). r) (IsRecordContent c.args.len) c.args.bytes.now c.from_residual-in_err-target.result c.in_err-target.field-0.0 c.from_residual-in_err-target.ensures.1
      (content_no_target (λ (r : Request). r) seen c.args.bytes.now e.0 e.1 c.in_ok-method.method c.args.len c.in_err-target.field-0.0 c.requires.lower_bound c.requires.upper_bound e.2 e.3
      (subst (λ (l : List ℕ). ReadsPart seen (IsBlockOfLength 0 (c.args.len - 11)) l (Err c.in_err-target.field-0.0)) tail c.in_err-target.ensures.reads_rule));
}

pub bytes_after-requires-2 : goal.bytes_after-requires-2
bytes_after-requires-2 c =
    let e = c.in_ok-method.ensures.reads_rule in
    let f = c.in_ok-target.ensures.reads_rule in
    let tail : c.bytes_after.result.now ≡ e.1 = c.bytes_after.ensures.exact ∙ behind c.args.bytes.now e.0 e.1 1 e.2 (ap length e.3.0) in
    omega (arith, ap length e.2, length-append e.0 e.1, ap length e.3.0, ap length tail, ap length f.2, length-append f.0 f.1, ap length f.3.0, block_length c.in_ok-target.target.now)

pub returns-in_err-fields : goal.returns-in_err-fields
returns-in_err-fields c = record {
  reads_rule =
      let e = c.in_ok-method.ensures.reads_rule in
      let f = c.in_ok-target.ensures.reads_rule in
      let target = c.in_ok-target.target.now in
      let tail : c.bytes_after.result.now ≡ e.1 = c.bytes_after.ensures.exact ∙ behind c.args.bytes.now e.0 e.1 1 e.2 (ap length e.3.0) in
      let split : e.1 ≡ f.0 ++ f.1 = sym tail ∙ f.2 in
      let read_rest : c.bytes_after-2.result.now ≡ f.1 =
      c.bytes_after-2.ensures.exact ∙ behind c.args.bytes.now (e.0 ++ f.0) f.1 (5 + length target) (e.2 ∙ ap (λ (l : List ℕ). e.0 ++ l) split ∙ sym (append_assoc e.0 f.0 f.1))
      (omega (arith, length-append e.0 f.0, ap length e.3.0, ap length f.3.0, block_length target)) in
      let seen : List Field × List ℕ → List Field × List ℕ = λ value. (value.0, value.1) in
      stops_with (λ (r : Request). r) (IsRecordContent c.args.len) c.args.bytes.now c.from_residual-in_err-fields.result c.in_err-fields.field-0.0 c.from_residual-in_err-fields.ensures.1
      (content_no_rest (λ (r : Request). r) seen c.args.bytes.now e.0 e.1 c.in_ok-method.method f.0 f.1 target c.args.len c.in_err-fields.field-0.0 c.requires.lower_bound c.requires.upper_bound e.2 e.3 split f.3
      (subst (λ (l : List ℕ). ReadsPart seen (IsRestOfContent (c.args.len - (5 + length target))) l (Err c.in_err-fields.field-0.0)) read_rest c.in_err-fields.ensures.reads_rule));
}

pub returns : goal.returns
returns c = record {
  reads_rule =
      let e = c.in_ok-method.ensures.reads_rule in
      let f = c.in_ok-target.ensures.reads_rule in
      let g = c.in_ok-fields.ensures.reads_rule in
      let target = c.in_ok-target.target.now in
      let tail : c.bytes_after.result.now ≡ e.1 = c.bytes_after.ensures.exact ∙ behind c.args.bytes.now e.0 e.1 1 e.2 (ap length e.3.0) in
      let split : e.1 ≡ f.0 ++ f.1 = sym tail ∙ f.2 in
      let read_rest : c.bytes_after-2.result.now ≡ f.1 =
      c.bytes_after-2.ensures.exact ∙ behind c.args.bytes.now (e.0 ++ f.0) f.1 (5 + length target) (e.2 ∙ ap (λ (l : List ℕ). e.0 ++ l) split ∙ sym (append_assoc e.0 f.0 f.1))
      (omega (arith, length-append e.0 f.0, ap length e.3.0, ap length f.3.0, block_length target)) in
      let value : List Field × List ℕ = (c.in_ok-fields.fields, c.in_ok-fields.body) in
      let whole = content_whole c.args.bytes.now e.0 e.1 c.in_ok-method.method f.0 f.1 target g.0 g.1 value c.args.len c.requires.lower_bound c.requires.upper_bound e.2 e.3 split f.3 (sym read_rest ∙ g.2) g.3 in
      subst (λ (t : List ℕ). ReadsPart (λ (r : Request). r) (IsRecordContent c.args.len) c.args.bytes.now (Ok (request_with (the_view c.method.inside) t value))) (sym c.in_ok-from.ensures.same_bytes)
      (subst (λ (m : List ℕ). ReadsPart (λ (r : Request). r) (IsRecordContent c.args.len) c.args.bytes.now (Ok (request_with m target value))) (sym c.method.view_is) whole);
}
