use Rattle.std.proofs.Common.{◌<◌, All, List, length, sym, ap, subst, arith}
use Rattle.http_wire.specs.declared.request.Field.{Field}
use Rattle.change_records.specs.ReadFields.{kept_fields}
use Rattle.change_records.specs.inner.WritableFields.{FitsBlockIfKept}
use Rattle.change_records.proofs.Lengths.{short_body, short_target, writable_fields}
use Rattle.change_records.proofs.record_writing.append_parts.Goals as goal

pub append_block-requires : goal.append_block-requires
append_block-requires c = record { short = omega (arith, short_target c.args.request.now c.requires.recordable, ap length c.as_slice.ensures.exact) }

pub append_block-requires-2 : goal.append_block-requires-2
append_block-requires-2 c = record { short = omega (arith, short_body c.args.request.now c.requires.recordable, ap length c.as_slice-2.ensures.exact) }

pub append_counted_fields-requires : goal.append_counted_fields-requires
append_counted_fields-requires c =
    let request = c.args.request.now in
    let is = c.requires.recordable in record {
      few = subst (λ (l : List Field). length (kept_fields l) < 256) (sym c.as_slice-3.ensures.exact) is.few;
      writable = subst (λ (l : List Field). All FitsBlockIfKept l) (sym c.as_slice-3.ensures.exact) (writable_fields request is);
    }
