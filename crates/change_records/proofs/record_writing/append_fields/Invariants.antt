use Rattle.std.proofs.Common.{◌≡◌, ◌++◌, drop, flat_map}
use Rattle.change_records.specs.Records.{field_bytes}
use Rattle.change_records.proofs.record_writing.append_fields.Given as goal

abbrev pub invariant-fields : goal.invariant-fields
invariant-fields l = l.made.items ++ flat_map field_bytes (drop l.field-index l.fields) ≡ l.initial.made.items ++ flat_map field_bytes l.fields
