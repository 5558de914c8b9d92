-- The fields of a request that say whether a PUT or DELETE makes a change. RFC 9110, sections 8.3
-- (Content-Type), 8.4 (Content-Encoding), 13.1.1 (If-Match) and 13.1.2 (If-None-Match);
-- X-XCAP-User is this server's own.
use Rattle.std.specs.Prelude.{ℕ, Bool, List, if◌then◌else◌, Option, None, Some, codes, option_map}
use Rattle.std.specs.List.{filter_map}
use Rattle.http_wire.specs.Fields.{same_ignoring_case}
use Rattle.http_wire.specs.declared.request.Field.{Field}
use Rattle.change_records.specs.declared.read_fields.ReadField.{ReadField}
use Rattle.change_records.specs.declared.read_fields.ReadField.TheVariants.{User, IfMatch}
use Rattle.change_records.specs.declared.read_fields.ReadField.TheVariants.{IfNoneMatch}
use Rattle.change_records.specs.declared.read_fields.ReadField.TheVariants.{ContentType}
use Rattle.change_records.specs.declared.read_fields.ReadField.TheVariants.{ContentEncoding}

abbrev pub name_of : ReadField → List ℕ
name_of User = codes "x-xcap-user"
name_of IfMatch = codes "if-match"
name_of IfNoneMatch = codes "if-none-match"
name_of ContentType = codes "content-type"
name_of ContentEncoding = codes "content-encoding"

-- the field has this name, ignoring the case of letters (RFC 9110, section 5.1)
abbrev pub is_named : List ℕ → ReadField → Bool
is_named name field = same_ignoring_case name (name_of field)

-- the field of this name, if it is one of them
unfoldable pub read_field_of : List ℕ → Option ReadField
read_field_of name =
    if is_named name User then Some User
    else if is_named name IfMatch then Some IfMatch
    else if is_named name IfNoneMatch then Some IfNoneMatch
    else if is_named name ContentType then Some ContentType
    else if is_named name ContentEncoding then Some ContentEncoding
    else None

-- the field with its name in lower case, if it is one of them
unfoldable pub kept_field : Field → Option Field
kept_field field =
    option_map (λ known. record { name = name_of known; value = field.value })
    (read_field_of field.name)

-- the fields that are one of them, in order
abbrev pub kept_fields : List Field → List Field
kept_fields fields = filter_map kept_field fields
