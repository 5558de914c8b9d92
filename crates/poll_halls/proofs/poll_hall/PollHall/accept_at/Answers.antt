use Rattle.std.proofs.Common.{◌≡◌, ◌+◌, ◌<◌, ℕ, List, length, Option, None, Some, sym, ap, subst, ◌∙◌}
use Rattle.std.specs.Prelude.{slice_set}
use Rattle.halls.specs.HallState.{HallState}
use Rattle.poll_halls.specs.inner.ConnectionPlaces.{HoldsBetweenCalls, number_at}
use Rattle.poll_halls.proofs.OpenPlaces.{kept_begun, kept_refused}
use Rattle.poll_halls.proofs.poll_hall.PollHall.accept_at.Goals as goal

pub invariant_of-self : goal.invariant_of-self
invariant_of-self g c =
    let next = c.next_stream.new.self in
    let place = c.args.place in
    let same : next.numbers.items ≡ c.args.self.now.numbers.items = c.next_stream.ensures.same_numbers in
    let inside : place < length next.numbers.items = subst (λ (numbers : List (Option ℕ)). place < length numbers) (sym same) c.requires.inside in
    let free : number_at next.numbers.items place ≡ None = ap (λ (numbers : List (Option ℕ)). number_at numbers place) same ∙ c.requires.free in
    record {
      kept = subst (λ (hall : HallState). HoldsBetweenCalls (slice_set next.numbers.items place (Some next.begun)) (next.begun + 1) hall) (sym c.with_call-self.ensures.call_is_logged)
          (kept_begun next.numbers.items next.begun place next.log.state next.kept inside free (next.log.state.accepts + 1));
    }

pub invariant_of-self-in-Ok-None : goal.invariant_of-self-in-Ok-None
invariant_of-self-in-Ok-None g c =
    let next = c.next_stream.new.self in
    record {
      kept = subst (λ (hall : HallState). HoldsBetweenCalls next.numbers.items next.begun hall) (sym c.with_call-self-in-Ok-None.ensures.call_is_logged)
          (kept_refused next.numbers.items next.begun next.log.state.faults next.log.state next.kept);
    }

pub invariant_of-self-in-Err : goal.invariant_of-self-in-Err
invariant_of-self-in-Err g c =
    let next = c.next_stream.new.self in
    record {
      kept = subst (λ (hall : HallState). HoldsBetweenCalls next.numbers.items next.begun hall) (sym c.with_call-self-in-Err.ensures.call_is_logged)
          (kept_refused next.numbers.items next.begun (next.log.state.faults + 1) next.log.state next.kept);
    }
