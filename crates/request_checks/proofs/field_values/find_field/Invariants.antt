use Rattle.std.proofs.Common.{◌≡◌, ◌≤◌, length}
use Rattle.request_checks.specs.Rights.{fields_named}
use Rattle.request_checks.proofs.field_values.find_field.Given as goal

abbrev pub invariant-fields : goal.invariant-fields
invariant-fields l = record {
  same : fields_named l.name l.fields ≡ fields_named l.name l.fn.fields;
  within : length l.fields ≤ length l.fn.fields;
}

abbrev pub decreases-fields : goal.decreases-fields
decreases-fields l = length l.fields
