-- Fields as a record's writer takes them. This is the project's own.
use Rattle.std.specs.Prelude.{◌<◌, ◌^◌, Bool, length, IfSome, is_some}
use Rattle.http_wire.specs.declared.request.Field.{Field}
use Rattle.change_records.specs.ReadFields.{read_field_of}

-- the field is not kept, or its value fits a block
abbrev pub FitsBlockIfKept : Field → Type 0
FitsBlockIfKept field = IfSome (read_field_of field.name) (λ _. length field.value < 2 ^ 32)

-- the field is kept
abbrev pub is_kept : Field → Bool
is_kept field = is_some (read_field_of field.name)
