use Rattle.std.proofs.Common.{arith}
use Rattle.edit_plans.proofs.SpotLemmas.{is_under, no_first_step, no_parent}
use Rattle.edit_plans.proofs.spots.element_target.Goals as goal
use Rattle.edit_plans.proofs.spots.element_target.Goals.{else-reached-many-2-via-then-reached-many-2+else-many-reached-eq1, else-reached-many-2-via-else-reached-many-2}

pub returns-then-reached-eq0 : goal.returns-then-reached-eq0
returns-then-reached-eq0 c = record { element_spot = λ t selector ends_so many reaches. no_first_step t selector c.args.many c.args.reached many reaches ends_so c.if-reached-eq0.true c.if-many-eq1.false }

pub returns-then-many-reached-eq1 : goal.returns-then-many-reached-eq1
returns-then-many-reached-eq1 c = record { element_spot = λ t selector ends_so many reaches. is_under t selector c.args.many c.args.reached many reaches ends_so c.if-reached-eq0.false c.if-reached-many-2.true c.if-many-reached-eq1.true }

pub returns : goal.returns
returns c = record {
  element_spot = λ t selector ends_so many reaches.
      no_parent t selector c.args.many c.args.reached many reaches ends_so c.if-reached-eq0.false c.if-reached-many.false (λ lt one. elim c.else-reached-many-2.branch [
        | else-reached-many-2-via-then-reached-many-2+else-many-reached-eq1 w ↦ w.if-many-reached-eq1.false one
        | else-reached-many-2-via-else-reached-many-2 w ↦ (let f = w.if-reached-many-2.false in omega arith)
      ]);
}
