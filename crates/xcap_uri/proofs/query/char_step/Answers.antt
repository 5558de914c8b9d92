use Rattle.std.proofs.Common.{arith}
use Rattle.xcap_uri.proofs.UriChars.{opens, goes_on}
use Rattle.xcap_uri.proofs.query.char_step.Goals as goal

pub returns-in-40-clause-steps_by_rule : goal.returns-in-40-clause-steps_by_rule
returns-in-40-clause-steps_by_rule c = opens c.args.depth c.args.c c.args.rest.now c.in-40.is

pub returns-in_default-clause-steps_by_rule : goal.returns-in_default-clause-steps_by_rule
returns-in_default-clause-steps_by_rule c = goes_on c.args.depth c.args.c c.args.rest.now (omega arith) (omega arith) (omega arith)
