use Rattle.std.proofs.Common.{◌≡◌, ℕ, List, IfOk, codes, ap, subst, ◌∙◌}
use Rattle.request_checks.specs.Rights.{fields_named}
use Rattle.request_checks.proofs.ReadConditions.{LinesMake}
use Rattle.request_checks.proofs.outcomes.outcome.Goals as goal

pub returns : goal.returns
returns c = record {
  outcome_of_conditions =
      let matches : c.as_slice.result.now ≡ fields_named (codes "if-match") c.args.request.now.fields =
      c.as_slice.ensures.exact ∙ c.in_ok-if_match.ensures.ok ∙ ap (fields_named (codes "if-match")) c.as_slice-fields.ensures.exact in
      let others : c.as_slice-2.result.now ≡ fields_named (codes "if-none-match") c.args.request.now.fields =
      c.as_slice-2.ensures.exact ∙ c.in_ok-if_none_match.ensures.ok ∙ ap (fields_named (codes "if-none-match")) c.as_slice-fields.ensures.exact in
      subst (λ (lines : List (List ℕ) × List (List ℕ)). IfOk c.outcome_by_lines.result (λ o. LinesMake lines.0 lines.1 c.args.tag c.args.exists c.args.reading o))
      (λ i. (matches i, others i)) c.outcome_by_lines.ensures.outcome_of_lines;
}
