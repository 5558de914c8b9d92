use Rattle.std.proofs.Common.{◌≡◌, ◌+◌, ◌-◌, ◌≤◌, ◌++◌}
use Rattle.xcap_app.specs.SampleRequests.{requests_from}
use Rattle.xcap_app.proofs.sample_connections.build_connection.Given as goal

abbrev pub invariant-requests : goal.invariant-requests
invariant-requests l = record {
  within : l.made ≤ l.fn.count;
  all : l.bytes ++ requests_from (l.fn.first + l.made) (l.fn.count - l.made) ≡ requests_from l.fn.first l.fn.count;
}

abbrev pub decreases-requests : goal.decreases-requests
decreases-requests l = l.fn.count - l.made
