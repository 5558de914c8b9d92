use Rattle.std.proofs.Common.{ℕ, List, Option, sym, subst}
use Rattle.halls.specs.StateChanges.{hall_after_close}
use Rattle.halls.specs.HallState.{HallState}
use Rattle.poll_halls.specs.inner.ConnectionPlaces.{HoldsBetweenCalls}
use Rattle.poll_halls.proofs.OpenPlaces.{kept_closed}
use Rattle.poll_halls.proofs.poll_hall.PollHallHall.close.Goals as goal

pub invariant_of-self : goal.invariant_of-self
invariant_of-self g c =
    let self = c.args.self.now in
    let closed = kept_closed self.numbers.items self.begun self.log.state c.args.id self.kept c.requires.open in
    record {
      kept = subst (λ (hall : HallState). HoldsBetweenCalls c.free_place.new.places.items self.begun hall) (sym c.with_call-self.ensures.call_is_logged)
          (subst (λ (numbers : List (Option ℕ)). HoldsBetweenCalls numbers self.begun (hall_after_close c.args.id.number self.log.state)) (sym c.free_place.ensures.frees) closed);
    }
