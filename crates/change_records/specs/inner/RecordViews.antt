-- The parts of a record, as the code has them.
use Rattle.std.specs.Prelude.{chars}
use Rattle.change_records.specs.Readings.{RecordParts}
use Rattle.change_records.specs.declared.record_reading.RecordParts.{RecordParts as CodeParts}

abbrev pub parts_view : CodeParts → RecordParts
parts_view parts = record {
  method = chars parts.method.now;
  target = parts.target.now;
  body = parts.body.now;
  fields = parts.fields.now;
}
