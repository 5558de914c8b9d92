-- What a record gives has the same record.
use Rattle.std.proofs.Common.{◌≡◌, ℕ, false, List, [], ◌∷◌, ◌++◌, length, flat_map, Option, None, Some, option_map, refl, sym, ap, subst, ◌∙◌, arith}
use Rattle.std.specs.List.{cons_option}
use Rattle.byte_blocks.specs.Blocks.{block}
use Rattle.http_wire.specs.declared.request.Field.{Field}
use Rattle.http_wire.specs.declared.request.Request.{Request}
use Rattle.request_checks.specs.Methods.{method_of}
use Rattle.change_records.specs.ReadFields.{kept_fields, read_field_of}
use Rattle.change_records.specs.Records.{IsRecordable, change_record, field_bytes, kept_request, method_number}
use Rattle.change_records.specs.declared.read_fields.ReadField.{ReadField}
use Rattle.change_records.proofs.KeptFields.{field_with, kept_is, own_name}
use Rattle.change_records.proofs.Lengths.{bytes_are, bytes_by}

module _ (field : Field) where
  abbrev kept_by : Option ReadField → List Field → List Field
  kept_by o others = cons_option (option_map (field_with field) o) others

  kept_by_again : (o : Option ReadField) (others : List Field) → kept_fields others ≡ others → kept_fields (kept_by o others) ≡ kept_by o others
  kept_by_again None others same = same
  kept_by_again (Some known) others same =
      ap (λ (o : Option Field). cons_option o (kept_fields others)) (kept_is (field_with field known) ∙ ap (λ (o : Option ReadField). option_map (field_with (field_with field known)) o) (own_name known))
      ∙ ap (λ (l : List Field). field_with field known ∷ l) same

  bytes_by_again : (o : Option ReadField) (others : List Field) → flat_map field_bytes (kept_by o others) ≡ bytes_by field o ++ flat_map field_bytes others
  bytes_by_again None others = refl
  bytes_by_again (Some known) others =
      ap (λ (l : List ℕ). l ++ flat_map field_bytes others) (bytes_are (field_with field known) ∙ ap (λ (o : Option ReadField). bytes_by (field_with field known) o) (own_name known))

kept_again : (fields : List Field) → kept_fields (kept_fields fields) ≡ kept_fields fields
kept_again [] = refl
kept_again (field ∷ fields) =
    subst (λ (o : Option Field). kept_fields (cons_option o (kept_fields fields)) ≡ cons_option o (kept_fields fields)) (sym (kept_is field))
    (kept_by_again field (read_field_of field.name) (kept_fields fields) (kept_again fields))

bytes_again : (fields : List Field) → flat_map field_bytes (kept_fields fields) ≡ flat_map field_bytes fields
bytes_again [] = refl
bytes_again (field ∷ fields) =
    ap (λ (o : Option Field). flat_map field_bytes (cons_option o (kept_fields fields))) (kept_is field)
    ∙ bytes_by_again field (read_field_of field.name) (kept_fields fields)
    ∙ ap (λ (l : List ℕ). l ++ flat_map field_bytes (kept_fields fields)) (sym (bytes_are field))
    ∙ ap (λ (l : List ℕ). field_bytes field ++ l) (bytes_again fields)

module _ (request : Request) where
  abbrev with_fields : List ℕ → List ℕ
  with_fields fields = method_number (method_of request.method) ∷ (block request.target ++ (block request.body ++ fields))

  pub record_again : change_record (kept_request request) ≡ change_record request
  record_again =
      ap (λ (l : List Field). with_fields (length l ∷ flat_map field_bytes (kept_fields request.fields))) (kept_again request.fields)
      ∙ ap (λ (l : List ℕ). with_fields (length (kept_fields request.fields) ∷ l)) (bytes_again request.fields)

  pub kept_request_again : kept_request (kept_request request) ≡ kept_request request
  kept_request_again = ap (λ (l : List Field). record request { closes = false; fields = l }) (kept_again request.fields)

  pub recordable_again : IsRecordable request → IsRecordable (kept_request request)
  recordable_again is = record {
    method = is.method;
    few = omega (arith, is.few, ap (λ (l : List Field). length l) (kept_again request.fields));
    short = omega (arith, is.short, ap (λ (l : List ℕ). length l) record_again);
  }
