use Rattle.std.proofs.Common.{◌∙◌, arith}
use Rattle.std.proofs.lemmas.Grind.{common_steps}
use Rattle.xcap_client.proofs.Lengths.{number_more}
use Rattle.xcap_client.proofs.body_length.capped_number.Goals as goal

pub digits-preserved : goal.digits-preserved
digits-preserved c = record {
  digits = grind (arith, common_steps);
  value = c.saturating_add-value.ensures
      ∙ rw (c.saturating_mul.ensures, c.from.ensures) (number_more c.args.digits.now c.digits.digit-index c.digits.value c.digits-test.true c.if-not-is_ascii_digit.ensures.cases c.digits.invariant.value);
}
