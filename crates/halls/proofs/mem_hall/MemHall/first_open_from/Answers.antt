use Rattle.std.proofs.Common.{◌≡◌, ℕ, inl, inr, true, sym, subst, arith}
use Rattle.std.proofs.lemmas.Bool.{cases_eq}
use Rattle.halls.specs.HallState.{connection_at}
use Rattle.halls.specs.MemoryHalls.{memory_hall_state}
use Rattle.halls.proofs.ShownConnections.{shown_count}
use Rattle.halls.proofs.mem_hall.MemHall.first_open_from.Goals as goal

pub loop-number-preserved : goal.loop-number-preserved
loop-number-preserved c =
    let self = c.args.self.now in
    let count = shown_count self.begun self.clients.items self.log.state self.counted self.within in
    λ n from below. elim (cases_eq n c.loop-number.number) [
      | inl same ↦
          subst (λ (k : ℕ). (connection_at (memory_hall_state self.clients.items self.log.state) k).closed ≡ true) (sym same)
          (c.in_default.ensures.open_or_not (omega (arith, count, c.loop-number-test.true)))
      | inr other ↦ c.loop-number.invariant n from (omega (arith, below, other))
    ]

pub returns : goal.returns
returns c =
    let self = c.args.self.now in
    let count = shown_count self.begun self.clients.items self.log.state self.counted self.within in
    record { open_or_none = λ n from below. c.loop-number.invariant n from (omega (arith, count, below, c.loop-number-test.false)) }
