use Rattle.std.proofs.Common.{sym, subst}
use Rattle.halls.specs.HallState.{HallState}
use Rattle.poll_halls.specs.inner.ConnectionPlaces.{HoldsBetweenCalls}
use Rattle.poll_halls.proofs.OpenPlaces.{kept_new}
use Rattle.poll_halls.proofs.poll_hall.PollHall.new.Goals as goal

pub invariant_of-result : goal.invariant_of-result
invariant_of-result g c =
    let numbers = c.in_ok-numbers.numbers.items in
    record {
      kept = subst (λ (hall : HallState). HoldsBetweenCalls numbers 0 hall) (sym c.new-2.ensures.nothing_passed)
          (kept_new numbers c.in_ok-numbers.ensures.all_free);
    }
