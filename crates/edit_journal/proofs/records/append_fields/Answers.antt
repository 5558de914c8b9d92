use Rattle.std.proofs.Common.{◌++◌, List, ℕ, take, ap, sym, ◌∙◌, append_assoc, flat_map}
use Rattle.http_wire.specs.declared.request.Field.{Field}
use Rattle.edit_journal.specs.Records.{field_text}
use Rattle.edit_journal.proofs.Lengths.{fields_more}
use Rattle.edit_journal.proofs.records.append_fields.Goals as goal

pub fields-preserved : goal.fields-preserved
fields-preserved c =
    let item = c.field-item.result in
    let fields = c.args.fields.now in
    let at = c.fields.field-index in
    let before = flat_map field_text (take at fields) in
    c.in_ok-append_field.ensures.appended
    ∙ ap (λ (l : List ℕ). l ++ field_text item) c.fields.invariant
    ∙ append_assoc c.args.made.now before (field_text item)
    ∙ ap (λ (f : Field). c.args.made.now ++ (before ++ field_text f)) c.field-item.is
    ∙ ap (λ (l : List ℕ). c.args.made.now ++ l) (sym (fields_more fields at item c.fields-test.true))
