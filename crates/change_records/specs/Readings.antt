-- A record read from left to right. By the law `records_have_one_form` this reads exactly the
-- records of the form.
use Rattle.std.specs.Prelude.{ℕ, zero, suc, ◌==◌, if◌then◌else◌, false, List, [], ◌∷◌, codes}
use Rattle.std.specs.Prelude.{chars}
use Rattle.std.specs.Prelude.{Option, None, Some, option_map}
use Rattle.std.specs.Option.{option_and_then}
use Rattle.byte_blocks.specs.Blocks.{block_at}
use Rattle.http_wire.specs.declared.request.Field.{Field}
use Rattle.http_wire.specs.declared.request.Request.{Request}
use Rattle.request_checks.specs.declared.method.Method.TheVariants.{Put, Delete}
use Rattle.change_records.specs.ReadFields.{name_of}
use Rattle.change_records.specs.Records.{field_number, method_number}
use Rattle.change_records.specs.declared.read_fields.ReadField.{ReadField}
use Rattle.change_records.specs.declared.read_fields.ReadField.TheVariants.{User, IfMatch}
use Rattle.change_records.specs.declared.read_fields.ReadField.TheVariants.{IfNoneMatch}
use Rattle.change_records.specs.declared.read_fields.ReadField.TheVariants.{ContentType}
use Rattle.change_records.specs.declared.read_fields.ReadField.TheVariants.{ContentEncoding}

-- the method of this number
abbrev pub method_at : ℕ → Option (List ℕ)
method_at number =
    if number == method_number Put then Some (chars (codes "PUT"))
    else if number == method_number Delete then Some (chars (codes "DELETE")) else None

-- the field of this number
abbrev pub read_field_at : ℕ → Option ReadField
read_field_at number =
    if number == field_number User then Some User
    else if number == field_number IfMatch then Some IfMatch
    else if number == field_number IfNoneMatch then Some IfNoneMatch
    else if number == field_number ContentType then Some ContentType
    else if number == field_number ContentEncoding then Some ContentEncoding
    else None

-- a field of this name, whose value is the block at the front, and the bytes after it
abbrev pub known_field_at : ReadField → List ℕ → Option (Field × List ℕ)
known_field_at known bytes =
    option_map (λ value. (record { name = name_of known; value = value.0 }, value.1))
    (block_at bytes)

-- the field at the front, and the bytes after it
abbrev pub field_at : List ℕ → Option (Field × List ℕ)
field_at [] = None
field_at (number ∷ bytes) =
    option_and_then (λ known. known_field_at known bytes) (read_field_at number)

-- this number of fields, if they are all that the bytes have
abbrev pub fields_of : ℕ → List ℕ → Option (List Field)
fields_of zero [] = Some []
fields_of zero (byte ∷ bytes) = None
fields_of (suc count) bytes =
    option_and_then (λ first. option_map (λ others. first.0 ∷ others) (fields_of count first.1))
    (field_at bytes)

-- the fields, after a byte with their number
abbrev pub counted_fields : List ℕ → Option (List Field)
counted_fields [] = None
counted_fields (count ∷ bytes) = fields_of count bytes

-- The parts of a record: the method, the target, the body, and the bytes of the fields.
pub record RecordParts : Type 0 where
  pub method : List ℕ
  pub target : List ℕ
  pub body : List ℕ
  pub fields : List ℕ

-- the parts after the method
abbrev pub parts_after : List ℕ → List ℕ → Option RecordParts
parts_after method bytes =
    option_and_then
    (λ target. option_map
    (λ body. record { method = method; target = target.0; body = body.0; fields = body.1 })
    (block_at target.1))
    (block_at bytes)

-- the parts of the record that the bytes begin with
abbrev pub parts_of : List ℕ → Option RecordParts
parts_of [] = None
parts_of (number ∷ bytes) =
    option_and_then (λ method. parts_after method bytes) (method_at number)

-- a request of these parts and fields
abbrev pub request_with : RecordParts → List Field → Request
request_with parts fields = record {
  method = parts.method;
  target = parts.target;
  closes = false;
  fields = fields;
  body = parts.body;
}

-- the request whose record the bytes are
abbrev pub request_of : List ℕ → Option Request
request_of bytes =
    option_and_then (λ parts. option_map (request_with parts) (counted_fields parts.fields))
    (parts_of bytes)
