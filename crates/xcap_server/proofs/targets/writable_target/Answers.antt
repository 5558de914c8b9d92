use Rattle.xcap_server.proofs.WritableNodes.{node_target}
use Rattle.xcap_server.proofs.targets.writable_target.Goals as goal

pub returns-in-Node : goal.returns-in-Node
returns-in-Node c = record { same_target = node_target c.in-Node.doc c.in-Node.selector c.args.target c.in-Node.is c.writable_node.result c.writable_node.ensures.same_node }
