use Rattle.request_checks.proofs.Values.{answer-said, no_conditions}
use Rattle.request_checks.proofs.condition_fields.read_conditions.Goals as goal

pub returns-clause-grammar_reading : goal.returns-clause-grammar_reading
returns-clause-grammar_reading c = answer-said c.args.if_match.now c.args.if_none_match.now c.read_both_fields.result c.read_both_fields.ensures.computed_reading

pub returns-clause-refused_unsaid : goal.returns-clause-refused_unsaid
returns-clause-refused_unsaid c = λ refused. no_conditions c.args.if_match.now c.args.if_none_match.now (c.read_both_fields.ensures.refused_no_reading refused)
