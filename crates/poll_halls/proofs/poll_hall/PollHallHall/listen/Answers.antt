use Rattle.std.proofs.Common.{sym, subst}
use Rattle.halls.specs.HallState.{HallState}
use Rattle.poll_halls.specs.inner.ConnectionPlaces.{HoldsBetweenCalls}
use Rattle.poll_halls.proofs.OpenPlaces.{kept_listen}
use Rattle.poll_halls.proofs.poll_hall.PollHallHall.listen.Goals as goal

pub invariant_of-self : goal.invariant_of-self
invariant_of-self g c =
    let self = c.args.self.now in
    record {
      kept = subst (λ (hall : HallState). HoldsBetweenCalls self.numbers.items self.begun hall) (sym c.with_call-self.ensures.call_is_logged)
          (kept_listen self.numbers.items self.begun self.log.state c.as_bytes.result.now c.listen-result.result self.kept);
    }
