use Rattle.std.proofs.Common.{inl, inr, refl}
use Rattle.edit_plans.proofs.ParentAnswers.{true_false}
use Rattle.edit_plans.proofs.remove_child.removal_in_parent.Goals as goal

pub returns-then-still_selects_child : goal.returns-then-still_selects_child
returns-then-still_selects_child c = record { removal_plan = inl (refl, c.still_selects_child.ensures.exact.0 c.if-still_selects_child.true) }

pub returns-then-not-neighbours_may_meet : goal.returns-then-not-neighbours_may_meet
returns-then-not-neighbours_may_meet c = record {
  removal_plan =
      inr (inl (refl, (λ s. true_false c.still_selects_child.result (c.still_selects_child.ensures.exact.1 s) c.if-still_selects_child.false), λ k. true_false c.neighbours_may_meet.result (c.neighbours_may_meet.ensures.exact.1 k) c.if-not-neighbours_may_meet.true));
}

pub returns : goal.returns
returns c = record {
  removal_plan =
      inr (inr (refl, (λ s. true_false c.still_selects_child.result (c.still_selects_child.ensures.exact.1 s) c.if-still_selects_child.false), c.neighbours_may_meet.ensures.exact.0 c.if-not-neighbours_may_meet.false));
}
