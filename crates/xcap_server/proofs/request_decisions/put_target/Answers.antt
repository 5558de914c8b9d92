use Rattle.std.proofs.Common.{subst}
use Rattle.xcap_machine.specs.StandardRequests.{IsWritableTarget}
use Rattle.xcap_server.specs.declared.targets.WritableTarget.{WritableTarget}
use Rattle.xcap_server.specs.inner.WritableTargets.{target_of}
use Rattle.xcap_server.proofs.WritableNodes.{selects_node}
use Rattle.xcap_server.proofs.request_decisions.put_target.Goals as goal

pub put_node-requires-clause-writable : goal.put_node-requires-clause-writable
put_node-requires-clause-writable c = subst (λ (t : WritableTarget). IsWritableTarget (target_of t)) c.in-Node.is c.requires.writable

pub put_node-requires-clause-selects_node : goal.put_node-requires-clause-selects_node
put_node-requires-clause-selects_node c = selects_node c.in-Node.doc c.in-Node.selector c.args.target c.in-Node.is c.requires.not_read_only
