-- The parts of a record that has at most the greatest length.
use Rattle.std.proofs.Common.{◌≡◌, ℕ, ◌+◌, ◌<◌, ◌^◌, List, [], ◌∷◌, ◌++◌, length, flat_map, All, IfSome, Option, None, Some, refl, ap, arith, length-append}
use Rattle.std.proofs.lemmas.List.Elements.{All-nil, All-cons}
use Rattle.byte_blocks.specs.Blocks.{block}
use Rattle.byte_blocks.proofs.Reading.{block_length}
use Rattle.http_wire.specs.declared.request.Field.{Field}
use Rattle.http_wire.specs.declared.request.Request.{Request}
use Rattle.change_records.specs.ReadFields.{kept_fields, read_field_of}
use Rattle.change_records.specs.Records.{IsRecordable, change_record, field_bytes, field_number}
use Rattle.change_records.specs.declared.read_fields.ReadField.{ReadField}
use Rattle.change_records.specs.inner.WritableFields.{FitsBlockIfKept}

abbrev pub bytes_by : Field → Option ReadField → List ℕ
bytes_by field o = elim o [ None ↦ [] | Some known ↦ field_number known ∷ block field.value ]

pub bytes_are : (field : Field) → field_bytes field ≡ bytes_by field (read_field_of field.name)
unfolding field_bytes
bytes_are field = refl

writable_by : (field : Field) (o : Option ReadField) → length (bytes_by field o) < 2 ^ 32 → IfSome o (λ _. length field.value < 2 ^ 32)
writable_by field None short = tt
writable_by field (Some known) short = omega (arith, block_length field.value, short)

pub all_writable : (fields : List Field) → length (flat_map field_bytes fields) < 2 ^ 32 → All FitsBlockIfKept fields
all_writable [] short = All-nil FitsBlockIfKept
all_writable (field ∷ fields) short =
    let sum = length-append (field_bytes field) (flat_map field_bytes fields) in
    All-cons FitsBlockIfKept field fields (writable_by field (read_field_of field.name) (omega (arith, sum, short, ap (λ (l : List ℕ). length l) (bytes_are field))))
    (all_writable fields (omega (arith, sum, short)))

module _ (request : Request) (recordable : IsRecordable request) where
  abbrev fields : List ℕ
  fields = flat_map field_bytes request.fields

  sum : length (change_record request) ≡ 10 + (length request.target + (length request.body + length fields))
  sum =
      omega (
        arith,
        length-append (block request.target) (block request.body ++ (length (kept_fields request.fields) ∷ fields)),
        length-append (block request.body) (length (kept_fields request.fields) ∷ fields),
        block_length request.target,
        block_length request.body,
      )

  pub short_target : length request.target < 2 ^ 32
  short_target = omega (arith, sum, recordable.short)

  pub short_body : length request.body < 2 ^ 32
  short_body = omega (arith, sum, recordable.short)

  pub writable_fields : All FitsBlockIfKept request.fields
  writable_fields = all_writable request.fields (omega (arith, sum, recordable.short))
