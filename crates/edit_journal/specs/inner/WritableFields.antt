-- What can be written into a record as it is. This is the project's own.
use Rattle.std.specs.Prelude.{◌<◌, ◌^◌, length}
use Rattle.std.specs.Str.{IsAscii}
use Rattle.http_wire.specs.declared.request.Field.{Field}

-- a field whose name is ASCII, and whose lengths fit four bytes
pub record IsWritableField (field : Field) : Type 0 where
  pub ascii : IsAscii field.name
  pub name : length field.name < 2 ^ 32
  pub value : length field.value < 2 ^ 32
