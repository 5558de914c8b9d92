use Rattle.std.proofs.Common.{false, refl}
use Rattle.edit_plans.proofs.ParentAnswers.{true_false}
use Rattle.edit_plans.proofs.siblings.is_sibling_with_key.Goals as goal

pub returns-then-is_left_out : goal.returns-then-is_left_out
returns-then-is_left_out c = record { exact = (λ h. absurd (true_false false h refl), λ h. absurd (h.0 (c.is_left_out.ensures.exact.0 c.if-is_left_out.true))) }

pub returns : goal.returns
returns c = record {
  exact =
      (λ h. ((λ e. true_false c.is_left_out.result (c.is_left_out.ensures.exact.1 e) c.if-is_left_out.false), c.has_sibling_key.ensures.exact.0 h), λ h. c.has_sibling_key.ensures.exact.1 h.1);
}
