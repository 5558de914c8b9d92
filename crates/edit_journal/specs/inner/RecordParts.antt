-- Reading the parts of a record from left to right, where the bytes may break off. This is the
-- project's own.
use Rattle.std.specs.Prelude.{◌≡◌, ℕ, ◌+◌, ◌*◌, ◌-◌, ◌<◌, ◌≤◌, List, [], ◌∷◌, ◌++◌, length}
use Rattle.std.specs.Prelude.{slice_index_or, All, Result, Ok, Err, flat_map}
use Rattle.std.specs.Int.{w16, w32, to_be_bytes}
use Rattle.httparse.specs.Grammar.{IsToken}
use Rattle.http_wire.specs.declared.request.Field.{Field}
use Rattle.http_wire.specs.declared.request.Request.{Request}
use Rattle.http_wire.specs.declared.limits.TheConstants.{MAX_BODY_BYTES, MAX_FIELD_LINES}
use Rattle.edit_journal.specs.Records.{method_number, length_prefixed, field_text, record_content}
use Rattle.edit_journal.specs.Records.{record_of}
use Rattle.edit_journal.specs.JournalTexts.{IsRecordedRequest}
use Rattle.edit_journal.specs.declared.field_parsers.FieldError.{FieldError}
use Rattle.edit_journal.specs.declared.field_parsers.FieldError.TheVariants.{Open, Wrong, NoMemory}

-- The result of reading a part at the front of the bytes, a part being a relation of bytes and
-- values: a value, as contracts see it, whose bytes are at the front; or that the bytes break off
-- within such a part; or that they neither begin one nor are the beginning of one. Nothing is said
-- when out of memory.
abbrev pub ReadsPart : {A B : Type 0} → (B → A) → (List ℕ → A → Type 0) → List ℕ
    → Result B FieldError → Type 0
ReadsPart {A} seen P bytes (Ok value) =
    (front rest : List ℕ) × (bytes ≡ front ++ rest) × P front (seen value)
ReadsPart {A} seen P bytes (Err Open) =
    (more : List ℕ) × (value : A) × (0 < length more) × P (bytes ++ more) value
ReadsPart {A} seen P bytes (Err Wrong) =
    (all : List ℕ) (value : A) (more rest : List ℕ) → P all value → ¬ (bytes ++ more ≡ all ++ rest)
ReadsPart {A} seen P bytes (Err NoMemory) = Unit {0}

-- a number in four bytes, between two bounds
abbrev pub IsU32Between : ℕ → ℕ → List ℕ → ℕ → Type 0
IsU32Between least most bytes value =
    (bytes ≡ to_be_bytes w32 value) × (least ≤ value) × (value ≤ most)

-- a number in two bytes, between two bounds
abbrev pub IsU16Between : ℕ → ℕ → List ℕ → ℕ → Type 0
IsU16Between least most bytes value =
    (bytes ≡ to_be_bytes w16 value) × (least ≤ value) × (value ≤ most)

-- a length between two bounds, and that many bytes
abbrev pub IsBlockOfLength : ℕ → ℕ → List ℕ → List ℕ → Type 0
IsBlockOfLength least most bytes value =
    (bytes ≡ length_prefixed value) × (least ≤ length value) × (length value ≤ most)

-- likewise, and the bytes are a token
abbrev pub IsTokenBlock : ℕ → ℕ → List ℕ → List ℕ → Type 0
IsTokenBlock least most bytes value = IsBlockOfLength least most bytes value × IsToken value

-- `left` bytes can have `count` fields and a body, and where there are no fields they are no
-- longer than a body
abbrev pub HasRoomForFields : ℕ → ℕ → Type 0
HasRoomForFields count left = (9 * count + 4 ≤ left) × (count ≡ 0 → left ≤ MAX_BODY_BYTES + 4)

-- the value of a field, where `left` bytes have it, `others` more fields and a body
abbrev pub IsFieldValue : ℕ → ℕ → List ℕ → List ℕ → Type 0
IsFieldValue others left bytes value =
    (bytes ≡ length_prefixed value) × (4 + length value ≤ left)
    × HasRoomForFields others (left - (4 + length value))

-- a field, where `left` bytes have it, `others` more fields and a body
abbrev pub IsFieldPart : ℕ → ℕ → List ℕ → Field → Type 0
IsFieldPart others left bytes field =
    (bytes ≡ field_text field) × IsToken field.name × (length bytes ≤ left)
    × HasRoomForFields others (left - length bytes)

-- `count` fields and the body, which fill `left` bytes
pub record IsFieldsAndBody (count left : ℕ) (bytes : List ℕ)
    (value : List Field × List ℕ) : Type 0 where
  pub is : bytes ≡ flat_map field_text value.0 ++ length_prefixed value.1
  pub fields : length value.0 ≡ count
  pub names : All (λ (field : Field). IsToken field.name) value.0
  pub body : length value.1 ≤ MAX_BODY_BYTES
  pub size : length bytes ≡ left

-- the number of fields, the fields and the body, which fill `left` bytes
pub record IsRestOfContent (left : ℕ) (bytes : List ℕ) (value : List Field × List ℕ) : Type 0 where
  pub is : bytes
      ≡ to_be_bytes w16 (length value.0) ++ (flat_map field_text value.0 ++ length_prefixed value.1)
  pub few : length value.0 ≤ MAX_FIELD_LINES
  pub names : All (λ (field : Field). IsToken field.name) value.0
  pub body : length value.1 ≤ MAX_BODY_BYTES
  pub size : length bytes ≡ left

-- a recorded method, in one byte
abbrev pub IsMethodByte : List ℕ → List ℕ → Type 0
IsMethodByte bytes value = (bytes ≡ method_number value ∷ []) × (0 < method_number value)

-- what a record has after its length
abbrev pub IsRecordContent : ℕ → List ℕ → Request → Type 0
IsRecordContent len bytes request =
    IsRecordedRequest request × (bytes ≡ record_content request) × (length bytes ≡ len)

-- a record
abbrev pub IsRecordOf : List ℕ → Request → Type 0
IsRecordOf bytes request = IsRecordedRequest request × (bytes ≡ record_of request)

-- the number that four bytes write, where missing bytes have the given value
abbrev pub padded_u32 : List ℕ → ℕ → ℕ
padded_u32 bytes lacking =
    slice_index_or bytes 0 lacking * 16_777_216
    + (slice_index_or bytes 1 lacking * 65_536
    + (slice_index_or bytes 2 lacking * 256 + slice_index_or bytes 3 lacking))

-- the number that two bytes write, likewise
abbrev pub padded_u16 : List ℕ → ℕ → ℕ
padded_u16 bytes lacking = slice_index_or bytes 0 lacking * 256 + slice_index_or bytes 1 lacking
