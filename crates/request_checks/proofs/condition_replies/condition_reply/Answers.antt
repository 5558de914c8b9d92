use Rattle.request_checks.proofs.condition_replies.condition_reply.Goals as goal

pub returns : goal.returns
returns c = record { exact = (c.in_ok-outcome.outcome, c.in_ok-outcome.ensures.outcome_of_conditions, c.outcome_reply.ensures.exact) }
