-- Only the record of a request is read as one.
use Rattle.std.proofs.Common.{◌≡◌, ℕ, zero, suc, ◌<◌, ◌≤◌, Bool, true, false, List, [], ◌∷◌, ◌++◌, length, cond, eqb, flat_map, Option, None, Some, codes, option_map, refl, sym, ap, subst, ◌∙◌, arith}
use Rattle.std.specs.List.{cons_option}
use Rattle.std.specs.Str.{chars}
use Rattle.std.proofs.lemmas.Bool.{eqb-true}
use Rattle.byte_blocks.specs.Blocks.{AreBytes, block, block_at}
use Rattle.byte_blocks.proofs.Reading.{one_form}
use Rattle.change_log.specs.declared.limits.TheConstants.{MAX_CONTENT_BYTES}
use Rattle.http_wire.specs.declared.request.Field.{Field}
use Rattle.http_wire.specs.declared.request.Request.{Request}
use Rattle.request_checks.specs.Methods.{method_of}
use Rattle.request_checks.specs.declared.method.Method.TheVariants.{Put, Delete}
use Rattle.change_records.specs.ReadFields.{kept_field, kept_fields, name_of}
use Rattle.change_records.specs.Readings.{RecordParts, counted_fields, field_at, fields_of, known_field_at, method_at, parts_after, parts_of, read_field_at, request_of, request_with}
use Rattle.change_records.specs.Records.{IsRecordable, change_record, field_bytes, field_number, is_writing, kept_request, method_number}
use Rattle.change_records.specs.declared.read_fields.ReadField.{ReadField}
use Rattle.change_records.specs.declared.read_fields.ReadField.TheVariants.{User, IfMatch, IfNoneMatch, ContentType, ContentEncoding}
use Rattle.change_records.proofs.KeptFields.{field_with, kept_is, own_name}
use Rattle.change_records.proofs.Lengths.{bytes_are, bytes_by}
use Rattle.change_records.proofs.Options.{bound_of, mapped_of, some_same}

bytes_behind : (xs ys : List ℕ) → AreBytes (xs ++ ys) → AreBytes ys
bytes_behind [] ys are = are
bytes_behind (x ∷ xs) ys are = bytes_behind xs ys are.1

-- the block at the front, and the bytes after it
block_form : (bytes value rest : List ℕ) → AreBytes bytes → block_at bytes ≡ Some (value, rest) → (bytes ≡ block value ++ rest) × AreBytes rest
block_form bytes value rest are e =
    let is = one_form bytes value rest e are in
    (is, bytes_behind (block value) rest (subst AreBytes is are))

-- ---- fields

number_by : (n : ℕ) (a b c d e : Bool) → (a ≡ true → n ≡ 1) → (b ≡ true → n ≡ 2) → (c ≡ true → n ≡ 3) → (d ≡ true → n ≡ 4) → (e ≡ true → n ≡ 5)
    → (known : ReadField) → cond a (Some User) (cond b (Some IfMatch) (cond c (Some IfNoneMatch) (cond d (Some ContentType) (cond e (Some ContentEncoding) None)))) ≡ Some known → n ≡ field_number known
number_by n true b c d e one two three four five known is = one refl ∙ ap field_number (some_same User known is)
number_by n false true c d e one two three four five known is = two refl ∙ ap field_number (some_same IfMatch known is)
number_by n false false true d e one two three four five known is = three refl ∙ ap field_number (some_same IfNoneMatch known is)
number_by n false false false true e one two three four five known is = four refl ∙ ap field_number (some_same ContentType known is)
number_by n false false false false true one two three four five known is = five refl ∙ ap field_number (some_same ContentEncoding known is)
number_by n false false false false false one two three four five known is = absurd cc

number_form : (n : ℕ) (known : ReadField) → read_field_at n ≡ Some known → n ≡ field_number known
number_form n known e = number_by n (eqb n 1) (eqb n 2) (eqb n 3) (eqb n 4) (eqb n 5) (eqb-true n 1) (eqb-true n 2) (eqb-true n 3) (eqb-true n 4) (eqb-true n 5) known e

-- a field that a record has
record FieldForm (bytes : List ℕ) (field : Field) (rest : List ℕ) : Type 0 where
  is : bytes ≡ field_bytes field ++ rest
  kept : kept_field field ≡ Some field
  left : AreBytes rest

known_field_form : (number : ℕ) (bytes : List ℕ) (known : ReadField) (x : Field × List ℕ) → AreBytes bytes → number ≡ field_number known → known_field_at known bytes ≡ Some x → FieldForm (number ∷ bytes) x.0 x.1
known_field_form number bytes known x are numbered e =
    let value = mapped_of (λ (value : List ℕ × List ℕ). (record { name = name_of known; value = value.0 }, value.1)) (block_at bytes) x e in
    let form = block_form bytes value.0.0 value.0.1 are value.1 in
    subst (λ (x : Field × List ℕ). FieldForm (number ∷ bytes) x.0 x.1) value.2 (form_of value.0.0 value.0.1 form.0 form.1)
  where
    form_of : (value rest : List ℕ) → bytes ≡ block value ++ rest → AreBytes rest → FieldForm (number ∷ bytes) (record { name = name_of known; value = value }) rest
    form_of value rest is left =
        let field : Field = record { name = name_of known; value = value } in
        record {
          is = ap (λ (n : ℕ). n ∷ bytes) numbered ∙ ap (λ (l : List ℕ). field_number known ∷ l) is ∙ ap (λ (l : List ℕ). l ++ rest) (sym (bytes_are field ∙ ap (bytes_by field) (own_name known)));
          kept = kept_is field ∙ ap (λ (o : Option ReadField). option_map (field_with field) o) (own_name known);
          left = left;
        }

field_form : (bytes : List ℕ) (x : Field × List ℕ) → AreBytes bytes → field_at bytes ≡ Some x → FieldForm bytes x.0 x.1
field_form [] x are e = absurd cc
field_form (number ∷ bytes) x are e =
    let known = bound_of (λ (known : ReadField). known_field_at known bytes) (read_field_at number) x e in
    known_field_form number bytes known.0 x are.1 (number_form number known.0 known.1) known.2

-- the fields that a record has
record FieldsForm (bytes : List ℕ) (count : ℕ) (fields : List Field) : Type 0 where
  is : bytes ≡ flat_map field_bytes fields
  counted : length fields ≡ count
  kept : kept_fields fields ≡ fields

one_more : (bytes : List ℕ) (count : ℕ) (field : Field) (rest : List ℕ) (others : List Field) → FieldForm bytes field rest → FieldsForm rest count others → FieldsForm bytes (suc count) (field ∷ others)
one_more bytes count field rest others first form = record {
  is = first.is ∙ ap (λ (l : List ℕ). field_bytes field ++ l) form.is;
  counted = ap suc form.counted;
  kept = ap (λ (o : Option Field). cons_option o (kept_fields others)) first.kept ∙ ap (λ (l : List Field). field ∷ l) form.kept;
}

fields_form : (count : ℕ) (bytes : List ℕ) (fields : List Field) → AreBytes bytes → fields_of count bytes ≡ Some fields → FieldsForm bytes count fields
fields_form zero [] fields are e = subst (FieldsForm [] zero) (some_same [] fields e) (record { is = refl; counted = refl; kept = refl })
fields_form zero (b ∷ bytes) fields are e = absurd cc
fields_form (suc count) bytes fields are e =
    let first = bound_of (λ (first : Field × List ℕ). option_map (λ (others : List Field). first.0 ∷ others) (fields_of count first.1)) (field_at bytes) fields e in
    let others = mapped_of (λ (others : List Field). first.0.0 ∷ others) (fields_of count first.0.1) fields first.2 in
    let form = field_form bytes first.0 are first.1 in
    subst (FieldsForm bytes (suc count)) others.2 (one_more bytes count first.0.0 first.0.1 others.0 form (fields_form count first.0.1 others.0 form.left others.1))

counted_form : (bytes : List ℕ) (fields : List Field) → AreBytes bytes → counted_fields bytes ≡ Some fields
    → (bytes ≡ length (kept_fields fields) ∷ flat_map field_bytes fields) × (kept_fields fields ≡ fields) × (length (kept_fields fields) < 256)
counted_form [] fields are e = absurd cc
counted_form (count ∷ bytes) fields are e =
    let form = fields_form count bytes fields are.1 e in
    let counted : length (kept_fields fields) ≡ count = ap (λ (l : List Field). length l) form.kept ∙ form.counted in
    (ap (λ (n : ℕ). n ∷ bytes) (sym counted) ∙ ap (λ (l : List ℕ). length (kept_fields fields) ∷ l) form.is, form.kept, omega (arith, counted, are.0))

-- ---- methods

put_is : method_of (chars (codes "PUT")) ≡ Put
unfolding method_of chars
put_is = refl

delete_is : method_of (chars (codes "DELETE")) ≡ Delete
unfolding method_of chars
delete_is = refl

abbrev HasNumber : ℕ → List ℕ → Type 0
HasNumber number name = (number ≡ method_number (method_of name)) × (is_writing (method_of name) ≡ true)

method_by : (n : ℕ) (a b : Bool) → (a ≡ true → n ≡ 1) → (b ≡ true → n ≡ 2) → (name : List ℕ) → cond a (Some (chars (codes "PUT"))) (cond b (Some (chars (codes "DELETE"))) None) ≡ Some name → HasNumber n name
method_by n true b one two name e = subst (HasNumber n) (some_same (chars (codes "PUT")) name e) (one refl ∙ sym (ap method_number put_is), ap is_writing put_is)
method_by n false true one two name e = subst (HasNumber n) (some_same (chars (codes "DELETE")) name e) (two refl ∙ sym (ap method_number delete_is), ap is_writing delete_is)
method_by n false false one two name e = absurd cc

method_form : (n : ℕ) (name : List ℕ) → method_at n ≡ Some name → HasNumber n name
method_form n name e = method_by n (eqb n 1) (eqb n 2) (eqb-true n 1) (eqb-true n 2) name e

-- ---- the record

record PartsForm (bytes : List ℕ) (parts : RecordParts) : Type 0 where
  is : bytes ≡ method_number (method_of parts.method) ∷ (block parts.target ++ (block parts.body ++ parts.fields))
  writing : is_writing (method_of parts.method) ≡ true
  left : AreBytes parts.fields

after_form : (number : ℕ) (method bytes : List ℕ) (parts : RecordParts) → AreBytes bytes → HasNumber number method → parts_after method bytes ≡ Some parts → PartsForm (number ∷ bytes) parts
after_form number method bytes parts are has e =
    let target = bound_of (λ (target : List ℕ × List ℕ). option_map (made_of target) (block_at target.1)) (block_at bytes) parts e in
    let body = mapped_of (made_of target.0) (block_at target.0.1) parts target.2 in
    let first = block_form bytes target.0.0 target.0.1 are target.1 in
    let second = block_form target.0.1 body.0.0 body.0.1 first.1 body.1 in
    subst (PartsForm (number ∷ bytes)) body.2 (record {
      is = ap (λ (n : ℕ). n ∷ bytes) has.0 ∙ ap (λ (l : List ℕ). method_number (method_of method) ∷ l) (first.0 ∙ ap (λ (l : List ℕ). block target.0.0 ++ l) second.0);
      writing = has.1;
      left = second.1;
    })
  where
    made_of : List ℕ × List ℕ → List ℕ × List ℕ → RecordParts
    made_of target body = record { method = method; target = target.0; body = body.0; fields = body.1 }

parts_form : (bytes : List ℕ) (parts : RecordParts) → AreBytes bytes → parts_of bytes ≡ Some parts → PartsForm bytes parts
parts_form [] parts are e = absurd cc
parts_form (number ∷ bytes) parts are e =
    let method = bound_of (λ (method : List ℕ). parts_after method bytes) (method_at number) parts e in
    after_form number method.0 bytes parts are.1 (method_form number method.0 method.1) method.2

pub record RecordForm (bytes : List ℕ) (request : Request) : Type 0 where
  pub is : bytes ≡ change_record request
  pub same : kept_request request ≡ request
  pub writing : is_writing (method_of request.method) ≡ true
  pub few : length (kept_fields request.fields) < 256

pub record_form : (bytes : List ℕ) (request : Request) → AreBytes bytes → request_of bytes ≡ Some request → RecordForm bytes request
record_form bytes request are e =
    let parts = bound_of (λ (parts : RecordParts). option_map (request_with parts) (counted_fields parts.fields)) (parts_of bytes) request e in
    let fields = mapped_of (request_with parts.0) (counted_fields parts.0.fields) request parts.2 in
    let form = parts_form bytes parts.0 are parts.1 in
    let counted = counted_form parts.0.fields fields.0 form.left fields.1 in
    subst (RecordForm bytes) fields.2 (record {
      is = form.is ∙ ap (λ (l : List ℕ). method_number (method_of parts.0.method) ∷ (block parts.0.target ++ (block parts.0.body ++ l))) counted.0;
      same = ap (request_with parts.0) counted.1;
      writing = form.writing;
      few = counted.2;
    })

pub recordable : (bytes : List ℕ) (request : Request) → RecordForm bytes request → length bytes ≤ MAX_CONTENT_BYTES → IsRecordable request
recordable bytes request form short = record {
  method = form.writing;
  few = form.few;
  short = omega (arith, short, ap (λ (l : List ℕ). length l) form.is);
}
