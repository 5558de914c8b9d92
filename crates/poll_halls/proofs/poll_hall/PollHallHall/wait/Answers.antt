use Rattle.std.proofs.Common.{sym, subst}
use Rattle.halls.specs.HallState.{HallState}
use Rattle.poll_halls.specs.inner.ConnectionPlaces.{HoldsBetweenCalls}
use Rattle.poll_halls.proofs.OpenPlaces.{kept_wait}
use Rattle.poll_halls.proofs.poll_hall.PollHallHall.wait.Goals as goal

pub invariant_of-self : goal.invariant_of-self
invariant_of-self g c =
    let self = c.args.self.now in
    record {
      kept = subst (λ (hall : HallState). HoldsBetweenCalls c.next_event-result.new.self.numbers.items c.next_event-result.new.self.begun hall) (sym c.with_call-self.ensures.call_is_logged)
          (kept_wait c.next_event-result.new.self.numbers.items c.next_event-result.new.self.begun c.next_event-result.new.self.log.state c.args.takes_more c.next_event-result.result c.next_event-result.new.self.kept);
    }
