use Rattle.std.proofs.Common.{◌∙◌}
use Rattle.xcap_put.proofs.TargetLemmas.{around_is, parent_there}
use Rattle.xcap_put.proofs.fragment_puts.scope_around.Goals as goal

pub scope_at-requires : goal.scope_at-requires
scope_at-requires c = record { place_exists = parent_there c.args.tree.now c.args.path.now c.in-Some.parent c.in-Some.field-0-1 c.in-Some.ensures.path_parts c.requires.place_exists }

pub returns-in-Some : goal.returns-in-Some
returns-in-Some c = record { exact = c.scope_at.ensures.exact ∙ around_is c.args.tree.now c.args.path.now c.in-Some.parent c.in-Some.field-0-1 c.in-Some.ensures.path_parts }
