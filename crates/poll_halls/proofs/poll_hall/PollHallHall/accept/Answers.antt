use Rattle.std.proofs.Common.{sym, subst}
use Rattle.halls.specs.HallState.{HallState}
use Rattle.poll_halls.specs.inner.ConnectionPlaces.{HoldsBetweenCalls}
use Rattle.poll_halls.proofs.OpenPlaces.{failed_alone, kept_refused}
use Rattle.poll_halls.proofs.poll_hall.PollHallHall.accept.Goals as goal

pub invariant_of-self : goal.invariant_of-self
invariant_of-self g c =
    let self = c.args.self.now in
    record {
      kept = subst (λ (hall : HallState). HoldsBetweenCalls self.numbers.items self.begun hall) (sym c.with_call-self.ensures.call_is_logged)
          (kept_refused self.numbers.items self.begun self.log.state.faults self.log.state self.kept);
    }

pub returns-then-is_free-clause-fails_alone : goal.returns-then-is_free-clause-fails_alone
returns-then-is_free-clause-fails_alone g c =
    let self = c.args.self.now in
    failed_alone c.accept_at.result self.numbers.items self.begun self.log.state self.kept c.accept_at.ensures.fails_alone
