-- The record of a request: what a journal keeps of a PUT or DELETE, so that it can be replayed.
-- This is the project's own.
use Rattle.std.specs.Prelude.{ℕ, ◌<◌, ◌≤◌, if◌then◌else◌, false, List, ◌∷◌, ◌++◌, flat_map, length}
use Rattle.std.specs.Prelude.{All, chars, codes}
use Rattle.std.specs.Int.{w16, w32, to_be_bytes}
use Rattle.std.specs.Str.{bytes_eq}
use Rattle.httparse.specs.Grammar.{IsToken}
use Rattle.http_wire.specs.declared.request.Field.{Field}
use Rattle.http_wire.specs.declared.request.Request.{Request}
use Rattle.http_wire.specs.declared.limits.TheConstants.{MAX_BODY_BYTES, MAX_FIELD_LINES}
use Rattle.edit_journal.specs.declared.limits.TheConstants.{MAX_CONTENT_BYTES}

-- the number of a recorded method, and 0 for any other
unfoldable pub method_number : List ℕ → ℕ
method_number method =
    if bytes_eq method (chars (codes "PUT")) then 1
    else if bytes_eq method (chars (codes "DELETE")) then 2 else 0

-- a length in four bytes, the highest first, and that many bytes
unfoldable pub length_prefixed : List ℕ → List ℕ
length_prefixed bytes = to_be_bytes w32 (length bytes) ++ bytes

-- a field: its name and its value
abbrev pub field_text : Field → List ℕ
field_text field = length_prefixed field.name ++ length_prefixed field.value

-- the method, the target, the number of fields in two bytes, the fields and the body
abbrev pub record_content : Request → List ℕ
record_content request =
    method_number request.method
    ∷ (length_prefixed request.target
    ++ (to_be_bytes w16 (length request.fields)
    ++ (flat_map field_text request.fields ++ length_prefixed request.body)))

-- The record of a request. Whether the connection ends after it isn't recorded.
abbrev pub record_of : Request → List ℕ
record_of request = length_prefixed (record_content request)

-- The request has a record: a PUT or DELETE within the bounds.
pub record IsRecordable (request : Request) : Type 0 where
  pub method : 0 < method_number request.method
  pub names : All (λ (field : Field). IsToken field.name) request.fields
  pub few : length request.fields ≤ MAX_FIELD_LINES
  pub body : length request.body ≤ MAX_BODY_BYTES
  pub short : length (record_content request) ≤ MAX_CONTENT_BYTES

-- the request as its record gives it
abbrev pub recorded_request : Request → Request
recorded_request request = record request { closes = false }
