use Rattle.xcap_uri.proofs.UriChars.{ends, closes}
use Rattle.xcap_uri.proofs.query.closing_step.Goals as goal

pub returns-then-depth-eq0-clause-steps_by_rule : goal.returns-then-depth-eq0-clause-steps_by_rule
returns-then-depth-eq0-clause-steps_by_rule c = ends c.args.depth c.args.rest.now c.if-depth-eq0.true

pub returns-clause-steps_by_rule : goal.returns-clause-steps_by_rule
returns-clause-steps_by_rule c = closes c.args.depth c.args.rest.now c.if-depth-eq0.false
