use Rattle.halls.specs.inner.Clients.{AreClosed}
use Rattle.halls.specs.MemoryHalls.{memory_hall_state}
use Rattle.halls.proofs.mem_hall.MemHall.first_open_from.Given as goal

abbrev pub invariant-loop-number : goal.invariant-loop-number
invariant-loop-number l = AreClosed (memory_hall_state l.self.clients.items l.self.log.state) l.from l.number
