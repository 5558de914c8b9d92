-- The record of a change: what a log keeps of a PUT or DELETE, so that it can be made again. The
-- form is this project's own.
use Rattle.std.specs.Prelude.{◌≡◌, ℕ, ◌<◌, ◌≤◌, Bool, true, false, List, [], ◌∷◌, ◌++◌, length}
use Rattle.std.specs.Prelude.{flat_map, None, Some}
use Rattle.byte_blocks.specs.Blocks.{block}
use Rattle.change_log.specs.declared.limits.TheConstants.{MAX_CONTENT_BYTES}
use Rattle.http_wire.specs.declared.request.Field.{Field}
use Rattle.http_wire.specs.declared.request.Request.{Request}
use Rattle.request_checks.specs.Methods.{method_of}
use Rattle.request_checks.specs.declared.method.Method.{Method}
use Rattle.request_checks.specs.declared.method.Method.TheVariants.{Put, Delete}
use Rattle.change_records.specs.ReadFields.{kept_fields, read_field_of}
use Rattle.change_records.specs.declared.read_fields.ReadField.{ReadField}
use Rattle.change_records.specs.declared.read_fields.ReadField.TheVariants.{User, IfMatch}
use Rattle.change_records.specs.declared.read_fields.ReadField.TheVariants.{IfNoneMatch}
use Rattle.change_records.specs.declared.read_fields.ReadField.TheVariants.{ContentType}
use Rattle.change_records.specs.declared.read_fields.ReadField.TheVariants.{ContentEncoding}

-- the number of a method that changes documents, and 0 for any other
abbrev pub method_number : Method → ℕ
method_number Put = 1
method_number Delete = 2
method_number _ = 0

abbrev pub field_number : ReadField → ℕ
field_number User = 1
field_number IfMatch = 2
field_number IfNoneMatch = 3
field_number ContentType = 4
field_number ContentEncoding = 5

-- a field that is kept: its number, and its value as a block
unfoldable pub field_bytes : Field → List ℕ
field_bytes field = elim (read_field_of field.name) [
  | None ↦ []
  | Some known ↦ field_number known ∷ block field.value
]

-- the target and the body as blocks, and how many fields are kept, and these
abbrev pub parts_text : Request → List ℕ
parts_text request =
    block request.target
    ++ (block request.body
    ++ (length (kept_fields request.fields) ∷ flat_map field_bytes request.fields))

-- The record: the number of the method, and the other parts.
abbrev pub change_record : Request → List ℕ
change_record request = method_number (method_of request.method) ∷ parts_text request

-- the method changes documents
abbrev pub is_writing : Method → Bool
is_writing Put = true
is_writing Delete = true
is_writing _ = false

-- The request has a record: a PUT or DELETE within the bounds.
pub record IsRecordable (request : Request) : Type 0 where
  pub method : is_writing (method_of request.method) ≡ true
  pub few : length (kept_fields request.fields) < 256
  pub short : length (change_record request) ≤ MAX_CONTENT_BYTES

-- the request as its record gives it: with the fields that are kept, and none else
abbrev pub kept_request : Request → Request
kept_request request = record request { closes = false; fields = kept_fields request.fields }
