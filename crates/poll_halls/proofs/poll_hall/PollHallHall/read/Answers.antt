use Rattle.std.proofs.Common.{sym, subst}
use Rattle.halls.specs.HallState.{HallState}
use Rattle.poll_halls.specs.inner.ConnectionPlaces.{HoldsBetweenCalls}
use Rattle.poll_halls.proofs.OpenPlaces.{kept_read}
use Rattle.poll_halls.proofs.poll_hall.PollHallHall.read.Goals as goal

pub invariant_of-self : goal.invariant_of-self
invariant_of-self g c =
    let self = c.args.self.now in
    record {
      kept = subst (λ (hall : HallState). HoldsBetweenCalls self.numbers.items self.begun hall) (sym c.with_call-self.ensures.call_is_logged)
          (kept_read self.numbers.items self.begun self.log.state c.args.id.number c.read_at-result.new.buf c.read_at-result.result self.kept);
    }
