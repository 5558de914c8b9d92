use Rattle.std.proofs.Common.{◌∙◌}
use Rattle.xcap_put.proofs.TargetLemmas.{new_beside, new_under, there_as_value, there_over}
use Rattle.xcap_put.proofs.nodes.node_exists.Goals as goal

pub returns-in-Over : goal.returns-in-Over
returns-in-Over c = record { there_before = there_over c.args.tree.now c.args.selector.now c.args.spot.now c.requires.valid_spot c.in-Over.field-0 c.in-Over.is }

pub returns-in-Under : goal.returns-in-Under
returns-in-Under c = record { there_before = new_under c.args.tree.now c.args.selector.now c.args.spot.now c.requires.valid_spot c.in-Under.field-0 c.in-Under.is }

pub returns-in-Beside : goal.returns-in-Beside
returns-in-Beside c = record { there_before = new_beside c.args.tree.now c.args.selector.now c.args.spot.now c.requires.valid_spot c.in-Beside.is }

pub returns-in-Value : goal.returns-in-Value
returns-in-Value c = record { there_before = c.has_node_at.ensures.exact ∙ there_as_value c.args.tree.now c.args.selector.now c.args.spot.now c.requires.valid_spot c.in-Value.path c.in-Value.is }
