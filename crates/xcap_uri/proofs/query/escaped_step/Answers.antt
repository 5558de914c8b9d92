use Rattle.xcap_uri.proofs.UriChars.{escapes}
use Rattle.xcap_uri.proofs.query.escaped_step.Goals as goal
use Rattle.std.proofs.Common.{sym, ◌∙◌}

pub returns-in-len1-up-clause-steps_by_rule : goal.returns-in-len1-up-clause-steps_by_rule
returns-in-len1-up-clause-steps_by_rule c = escapes c.args.depth c.c-item.result c.args.rest.now c.in-len1-up.len_at_least c.c-item.is (sym c.is_escapable.ensures.exact ∙ c.if-is_escapable.true)
