use Rattle.std.proofs.Common.{Err, ap, ◌∙◌}
use Rattle.request_checks.specs.declared.faults.ConditionFault.{ConditionFault}
use Rattle.request_checks.specs.Conditions.{outcome_of_verdict}
use Rattle.request_checks.proofs.ReadConditions.{read_outcome, bad_outcome}
use Rattle.request_checks.proofs.outcomes.outcome_by_lines.Goals as goal

pub returns-in-Ok : goal.returns-in-Ok
returns-in-Ok c = record {
  outcome_of_lines =
      read_outcome c.args.if_match.now c.args.if_none_match.now c.in-Ok.conditions c.args.tag c.args.exists c.args.reading c.outcome_of_verdict.result c.in-Ok.ensures.grammar_reading
      (c.outcome_of_verdict.ensures.exact ∙ ap outcome_of_verdict c.condition.ensures.exact);
}

pub returns-in-Err-BadCondition : goal.returns-in-Err-BadCondition
returns-in-Err-BadCondition c = record {
  outcome_of_lines =
      bad_outcome c.args.if_match.now c.args.if_none_match.now c.args.tag c.args.exists c.args.reading
      (c.in-Err-BadCondition.ensures.refused_unsaid (ap (λ (fault : ConditionFault). Err fault) c.in-Err-BadCondition.field-0-is));
}
