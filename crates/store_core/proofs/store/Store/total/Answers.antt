use Rattle.std.proofs.Common.{arith}
use Rattle.store_core.proofs.ChangeReasons.{total-small}
use Rattle.store_core.proofs.store.Store.total.Goals as goal

pub returns-clause-stays_countable : goal.returns-clause-stays_countable
returns-clause-stays_countable c = let s = c.self.inside in omega (arith, total-small s.documents.entries s.services.entries s.limits s.last s.total c.self.invariant)
