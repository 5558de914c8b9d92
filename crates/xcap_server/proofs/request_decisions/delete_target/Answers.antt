use Rattle.xcap_server.proofs.WritableNodes.{selects_node}
use Rattle.xcap_server.proofs.request_decisions.delete_target.Goals as goal

pub delete_node-requires-clause-selects_node : goal.delete_node-requires-clause-selects_node
delete_node-requires-clause-selects_node c = selects_node c.in-Node.doc c.in-Node.selector c.args.target c.in-Node.is c.requires.not_read_only
