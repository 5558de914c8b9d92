use Rattle.std.proofs.Common.{◌≡◌, ◌+◌, ◌-◌, ◌/◌, ◌≤◌, ◌++◌}
use Rattle.xcap_app.specs.SampleRequests.{all_connections, connections_from}
use Rattle.xcap_app.proofs.sample_connections.build_connections.Given as goal

abbrev pub invariant-connections : goal.invariant-connections
invariant-connections l = record {
  counted : l.count ≡ (l.fn.requests + 999) / 1000;
  within : l.number ≤ l.count;
  all : l.all.items ++ connections_from l.fn.requests l.number (l.count - l.number) ≡ all_connections l.fn.requests;
}

abbrev pub decreases-connections : goal.decreases-connections
decreases-connections l = l.count - l.number
