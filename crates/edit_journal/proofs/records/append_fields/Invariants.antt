use Rattle.std.proofs.Common.{◌≡◌, ◌++◌, take, flat_map}
use Rattle.edit_journal.specs.Records.{field_text}
use Rattle.edit_journal.proofs.records.append_fields.Given as goal

abbrev pub invariant-fields : goal.invariant-fields
invariant-fields l = l.made ≡ l.initial.made ++ flat_map field_text (take l.field-index l.fields)
