use Rattle.std.proofs.Common.{◌≡◌, length}
use Rattle.xcap_client.specs.ServerAddresses.{has_port}
use Rattle.xcap_client.proofs.address.has_port.Given as goal

abbrev pub invariant-host : goal.invariant-host
invariant-host l = has_port l.rest ≡ has_port l.authority

abbrev pub decreases-host : goal.decreases-host
decreases-host l = length l.rest
