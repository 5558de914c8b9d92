use Rattle.std.proofs.Common.{◌≡◌, length}
use Rattle.std.specs.List.{list_all}
use Rattle.http_wire.specs.Fields.{same_ignoring_case}
use Rattle.request_checks.specs.Rights.{fields_named}
use Rattle.request_checks.proofs.field_values.all_values_are.Given as goal

abbrev pub invariant-fields : goal.invariant-fields
invariant-fields l =
    list_all (λ v. same_ignoring_case v l.word) (fields_named l.name l.fields) ≡ list_all (λ v. same_ignoring_case v l.word) (fields_named l.name l.fn.fields)

abbrev pub decreases-fields : goal.decreases-fields
decreases-fields l = length l.fields
