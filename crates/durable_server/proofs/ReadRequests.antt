-- A request that was read on a connection is within the bounds of the record of its change.
use Rattle.std.proofs.Common.{◌≡◌, ℕ, ◌+◌, ◌<◌, ◌≤◌, Bool, true, false, List, [], ◌∷◌, ◌++◌, length, Option, None, Some, if◌then◌else◌, codes, ap, arith, length-append}
use Rattle.std.specs.List.{cons_option, flat_map}
use Rattle.std.specs.Str.{bytes_eq, chars}
use Rattle.byte_blocks.proofs.Reading.{block_length}
use Rattle.change_records.specs.ReadFields.{kept_field, kept_fields, read_field_of}
use Rattle.change_records.specs.Records.{IsRecordable, change_record, field_bytes, is_writing}
use Rattle.change_records.specs.declared.read_fields.ReadField.{ReadField}
use Rattle.byte_blocks.specs.Blocks.{block}
use Rattle.change_records.proofs.Lengths.{bytes_are, bytes_by}
use Rattle.edit_journal.specs.Records as journal
use Rattle.edit_journal.specs.Records.{field_text, method_number}
use Rattle.edit_journal.proofs.Lengths.{content_length, field_length}
use Rattle.edit_journal.proofs.Loggable.{loggable}
use Rattle.http_serve.specs.ReadRequests.{IsReadRequest}
use Rattle.http_wire.specs.declared.request.Field.{Field}
use Rattle.http_wire.specs.declared.request.Request.{Request}
use Rattle.request_checks.specs.Methods.{method_of}
use Rattle.request_checks.specs.declared.method.Method.TheVariants.{Get, Head, Put, Delete, Other}

-- ---- the fields

kept_by : (o : Option Field) (fields : List Field) (n : ℕ) → length fields ≤ n → length (cons_option o fields) ≤ n + 1
kept_by None fields n le = omega (arith, le)
kept_by (Some f) fields n le = omega (arith, le)

kept_count : (fields : List Field) → length (kept_fields fields) ≤ length fields
kept_count [] = omega arith
kept_count (f ∷ fields) = let all = kept_by (kept_field f) (kept_fields fields) (length fields) (kept_count fields) in omega (arith, all)

bytes_shorter : (f : Field) (o : Option ReadField) → length (bytes_by f o) ≤ 5 + length f.value
bytes_shorter f None = omega arith
bytes_shorter f (Some known) = omega (arith, block_length f.value)

field_shorter : (f : Field) → length (field_bytes f) ≤ length (field_text f)
field_shorter f =
    let same : length (field_bytes f) ≡ length (bytes_by f (read_field_of f.name)) = ap (λ (l : List ℕ). length l) (bytes_are f) in
    omega (arith, same, bytes_shorter f (read_field_of f.name), field_length f)

fields_shorter : (fields : List Field) → length (flat_map field_bytes fields) ≤ length (flat_map field_text fields)
fields_shorter [] = omega arith
fields_shorter (f ∷ fields) =
    omega (arith, length-append (field_bytes f) (flat_map field_bytes fields), length-append (field_text f) (flat_map field_text fields), field_shorter f, fields_shorter fields)

-- ---- the method

numbered_by : (get head put delete : Bool) → is_writing (if get then Get else (if head then Head else (if put then Put else (if delete then Delete else Other)))) ≡ true
    → 0 < (if put then 1 else if delete then 2 else 0)
numbered_by true head put delete h = let no : ⊥ = cc in absurd no
numbered_by false true put delete h = let no : ⊥ = cc in absurd no
numbered_by false false true delete h = omega arith
numbered_by false false false true h = omega arith
numbered_by false false false false h = let no : ⊥ = cc in absurd no

numbered : (name : List ℕ) → is_writing (method_of name) ≡ true → 0 < method_number name
unfolding method_of method_number
numbered name h = numbered_by (bytes_eq name (chars (codes "GET"))) (bytes_eq name (chars (codes "HEAD"))) (bytes_eq name (chars (codes "PUT"))) (bytes_eq name (chars (codes "DELETE"))) h

-- ---- the record

change_size : (request : Request) → length (change_record request) ≡ 10 + (length request.target + (length request.body + length (flat_map field_bytes request.fields)))
change_size request =
    let fields = flat_map field_bytes request.fields in
    omega (
      arith,
      length-append (block request.target) (block request.body ++ (length (kept_fields request.fields) ∷ fields)),
      length-append (block request.body) (length (kept_fields request.fields) ∷ fields),
      block_length request.target,
      block_length request.body,
    )

record_by : (request : Request) → is_writing (method_of request.method) ≡ true → journal.IsRecordable request → IsRecordable request
record_by request writes bounds =
    let few : length request.fields ≤ 64 = bounds.few in
    let short : length (journal.record_content request) ≤ 300000 = bounds.short in
    let content = content_length request in
    let record_size : length (change_record request) ≡ 10 + (length request.target + (length request.body + length (flat_map field_bytes request.fields))) = change_size request in
    record {
      method = writes;
      few = omega (arith, few, kept_count request.fields);
      short = omega (arith, short, content, record_size, fields_shorter request.fields);
    }

pub recordable_when_read : (request : Request) → IsReadRequest request → is_writing (method_of request.method) ≡ true → IsRecordable request
recordable_when_read request read writes = record_by request writes (loggable request read (numbered request.method writes))
