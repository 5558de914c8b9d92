use Rattle.std.proofs.Common.{◌≡◌, ◌++◌, length}
use Rattle.usage_docs.specs.Services.{service_uris}
use Rattle.usage_docs.specs.readers.ServiceUris.{remaining_uris}
use Rattle.store_core.proofs.addresses.service_addresses.Given as goal

abbrev pub invariant-each : goal.invariant-each
invariant-each l = l.made ++ remaining_uris l.left ≡ service_uris l.root

abbrev pub decreases-each : goal.decreases-each
decreases-each l = length (remaining_uris l.left)
