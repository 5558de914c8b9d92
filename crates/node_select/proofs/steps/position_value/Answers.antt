use Rattle.std.proofs.Common.{chars, arith}
use Rattle.node_select.proofs.Positions.{too_great}
use Rattle.node_select.proofs.steps.position_value.Goals as goal

pub returns-then-value-gt-MAX_POSITION : goal.returns-then-value-gt-MAX_POSITION
returns-then-value-gt-MAX_POSITION c = record {
  exact =
      too_great (chars c.args.digits.now) (chars c.each.rest.now) (chars c.in-Some.after.now) c.each.value c.in-Some.c _ c.in-Some.ensures.first_and_rest c.each.invariant.left (omega (arith, c.digit_value.ensures.exact)) c.if-value-gt-MAX_POSITION.true;
}
