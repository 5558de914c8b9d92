use Rattle.std.proofs.Common.{◌≡◌, length}
use Rattle.usage_docs.specs.readers.ServiceUris.{remaining_uris}
use Rattle.usage_docs.proofs.service_uris.ServiceUrisIterator.next.Given as goal

abbrev pub invariant-loop-node : goal.invariant-loop-node
invariant-loop-node l = remaining_uris l.self ≡ remaining_uris l.initial.self

abbrev pub decreases-loop-node : goal.decreases-loop-node
decreases-loop-node l = length l.self.nodes.now
