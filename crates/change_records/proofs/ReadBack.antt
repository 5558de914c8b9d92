-- A record is read back.
use Rattle.std.proofs.Common.{◌≡◌, ℕ, ◌<◌, ◌^◌, Bool, true, false, List, [], ◌∷◌, ◌++◌, length, cond, flat_map, All, IfSome, Option, None, Some, codes, chars, option_map, refl, sym, ap, subst, ◌∙◌}
use Rattle.std.specs.List.{cons_option}
use Rattle.std.specs.Option.{option_and_then}
use Rattle.std.specs.Str.{bytes_eq}
use Rattle.std.proofs.lemmas.List.Elements.{All-head, All-tail}
use Rattle.std.proofs.lemmas.Slice.Eq.{bytes_eq-Decides}
use Rattle.byte_blocks.specs.Blocks.{block, block_at}
use Rattle.byte_blocks.proofs.Reading.{read_back}
use Rattle.http_wire.specs.declared.request.Field.{Field}
use Rattle.http_wire.specs.declared.request.Request.{Request}
use Rattle.request_checks.specs.Methods.{method_of}
use Rattle.request_checks.specs.declared.method.Method.{Method}
use Rattle.request_checks.specs.declared.method.Method.TheVariants.{Get, Head, Put, Delete, Other}
use Rattle.change_records.specs.ReadFields.{kept_fields, name_of, read_field_of}
use Rattle.change_records.specs.Readings.{RecordParts, counted_fields, field_at, fields_of, known_field_at, method_at, parts_after, parts_of, read_field_at, request_of, request_with}
use Rattle.change_records.specs.Records.{IsRecordable, change_record, field_bytes, field_number, is_writing, kept_request, method_number}
use Rattle.change_records.specs.declared.read_fields.ReadField.{ReadField}
use Rattle.change_records.specs.declared.read_fields.ReadField.TheVariants.{User, IfMatch, IfNoneMatch, ContentType, ContentEncoding}
use Rattle.change_records.specs.inner.WritableFields.{FitsBlockIfKept}
use Rattle.change_records.proofs.KeptFields.{field_with, kept_is}
use Rattle.change_records.proofs.Lengths.{bytes_are, bytes_by, short_body, short_target, writable_fields}

-- ---- fields

own_number : (known : ReadField) → read_field_at (field_number known) ≡ Some known
own_number User = refl
own_number IfMatch = refl
own_number IfNoneMatch = refl
own_number ContentType = refl
own_number ContentEncoding = refl

-- the first field of the rest, if there is one
abbrev then_field : ℕ → Field × List ℕ → Option (List Field)
then_field count first = option_map (λ others. first.0 ∷ others) (fields_of count first.1)

value_back : (field : Field) (known : ReadField) (rest : List ℕ) → length field.value < 2 ^ 32 → field_at (field_number known ∷ (block field.value ++ rest)) ≡ Some (field_with field known, rest)
value_back field known rest short =
    ap (λ (o : Option ReadField). option_and_then (λ k. known_field_at k (block field.value ++ rest)) o) (own_number known)
    ∙ ap (λ (o : Option (List ℕ × List ℕ)). option_map (λ value. (record { name = name_of known; value = value.0 }, value.1)) o) (read_back field.value rest short)

field_back : (field : Field) (others : List Field) (rest : List ℕ) (o : Option ReadField) → IfSome o (λ _. length field.value < 2 ^ 32) → fields_of (length others) rest ≡ Some others
    → fields_of (length (cons_option (option_map (field_with field) o) others)) (bytes_by field o ++ rest) ≡ Some (cons_option (option_map (field_with field) o) others)
field_back field others rest None short e = e
field_back field others rest (Some known) short e =
    ap (λ (o : Option (Field × List ℕ)). option_and_then (then_field (length others)) o) (value_back field known rest short)
    ∙ ap (λ (o : Option (List Field)). option_map (λ fields. field_with field known ∷ fields) o) e

pub fields_back : (fields : List Field) → All FitsBlockIfKept fields → fields_of (length (kept_fields fields)) (flat_map field_bytes fields) ≡ Some (kept_fields fields)
fields_back [] all = refl
fields_back (field ∷ fields) all =
    subst (λ (kept : Option Field). fields_of (length (cons_option kept (kept_fields fields))) (field_bytes field ++ flat_map field_bytes fields) ≡ Some (cons_option kept (kept_fields fields))) (sym (kept_is field))
    (subst (λ (l : List ℕ). fields_of (length (cons_option (option_map (field_with field) (read_field_of field.name)) (kept_fields fields))) (l ++ flat_map field_bytes fields) ≡ Some (cons_option (option_map (field_with field) (read_field_of field.name)) (kept_fields fields))) (sym (bytes_are field))
    (field_back field (kept_fields fields) (flat_map field_bytes fields) (read_field_of field.name) (All-head FitsBlockIfKept field fields all) (fields_back fields (All-tail FitsBlockIfKept field fields all))))

-- ---- methods

module _ (name : List ℕ) where
  abbrev chosen : Bool → Bool → Bool → Bool → Method
  chosen a b c d = cond a Get (cond b Head (cond c Put (cond d Delete Other)))

  is_chosen : method_of name ≡ chosen (bytes_eq name (chars (codes "GET"))) (bytes_eq name (chars (codes "HEAD"))) (bytes_eq name (chars (codes "PUT"))) (bytes_eq name (chars (codes "DELETE")))
  unfolding method_of
  is_chosen = refl

  by_tests : (a b c d : Bool) → (c ≡ true → name ≡ chars (codes "PUT")) → (d ≡ true → name ≡ chars (codes "DELETE")) → is_writing (chosen a b c d) ≡ true → method_at (method_number (chosen a b c d)) ≡ Some name
  by_tests true b c d put delete w = absurd cc
  by_tests false true c d put delete w = absurd cc
  by_tests false false true d put delete w = ap (λ (n : List ℕ). Some n) (sym (put refl))
  by_tests false false false true put delete w = ap (λ (n : List ℕ). Some n) (sym (delete refl))
  by_tests false false false false put delete w = absurd cc

  pub method_back : is_writing (method_of name) ≡ true → method_at (method_number (method_of name)) ≡ Some name
  method_back w =
      ap (λ (m : Method). method_at (method_number m)) is_chosen
      ∙ by_tests (bytes_eq name (chars (codes "GET"))) (bytes_eq name (chars (codes "HEAD"))) (bytes_eq name (chars (codes "PUT"))) (bytes_eq name (chars (codes "DELETE")))
      (bytes_eq-Decides name (chars (codes "PUT"))).0 (bytes_eq-Decides name (chars (codes "DELETE"))).0 (sym (ap is_writing is_chosen) ∙ w)

-- ---- the record

module _ (request : Request) (recordable : IsRecordable request) where
  abbrev count : ℕ
  count = length (kept_fields request.fields)

  abbrev fields : List ℕ
  fields = count ∷ flat_map field_bytes request.fields

  abbrev parts : RecordParts
  parts = record { method = request.method; target = request.target; body = request.body; fields = fields }

  abbrev made_of : List ℕ × List ℕ → List ℕ × List ℕ → RecordParts
  made_of target body = record { method = request.method; target = target.0; body = body.0; fields = body.1 }

  after_back : parts_after request.method (block request.target ++ (block request.body ++ fields)) ≡ Some parts
  after_back =
      ap (λ (o : Option (List ℕ × List ℕ)). option_and_then (λ target. option_map (made_of target) (block_at target.1)) o) (read_back request.target (block request.body ++ fields) (short_target request recordable))
      ∙ ap (λ (o : Option (List ℕ × List ℕ)). option_map (made_of (request.target, block request.body ++ fields)) o) (read_back request.body fields (short_body request recordable))

  parts_back : parts_of (change_record request) ≡ Some parts
  parts_back = ap (λ (o : Option (List ℕ)). option_and_then (λ method. parts_after method (block request.target ++ (block request.body ++ fields))) o) (method_back request.method recordable.method) ∙ after_back

  pub request_back : request_of (change_record request) ≡ Some (kept_request request)
  request_back =
      ap (λ (o : Option RecordParts). option_and_then (λ p. option_map (request_with p) (counted_fields p.fields)) o) parts_back
      ∙ ap (λ (o : Option (List Field)). option_map (request_with parts) o) (fields_back request.fields (writable_fields request recordable))
