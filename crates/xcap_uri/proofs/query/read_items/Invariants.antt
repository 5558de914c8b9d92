use Rattle.std.proofs.Common.{◌≡◌, ◌-◌}
use Rattle.xcap_uri.specs.readers.Queries.{parsed_bindings, parsed_items}
use Rattle.xcap_uri.specs.readers.UriSteps.{with_items}
use Rattle.xcap_uri.proofs.query.read_items.Given as goal

abbrev pub invariant-items : goal.invariant-items
invariant-items l = parsed_bindings l.text ≡ with_items l.bindings (parsed_items (l.end - l.counter) l.rest)
