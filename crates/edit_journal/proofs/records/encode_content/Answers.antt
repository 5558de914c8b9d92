use Rattle.std.proofs.Common.{All, List, length, sym, ap, subst, arith}
use Rattle.http_wire.specs.declared.request.Field.{Field}
use Rattle.edit_journal.specs.inner.WritableFields.{IsWritableField}
use Rattle.edit_journal.proofs.Lengths.{content_length, fields_writable}
use Rattle.edit_journal.proofs.records.encode_content.Goals as goal

pub append_block-requires : goal.append_block-requires
append_block-requires c =
    let request = c.args.request.now in
    omega (arith, content_length request, c.requires.short, ap length c.as_slice.ensures.exact)

pub append_fields-requires : goal.append_fields-requires
append_fields-requires c =
    let request = c.args.request.now in
    let size = content_length request in
    subst (λ (l : List Field). All IsWritableField l) (sym c.as_slice-fields.ensures.exact)
    (fields_writable request.fields c.requires.names (omega (arith, c.requires.short)))
