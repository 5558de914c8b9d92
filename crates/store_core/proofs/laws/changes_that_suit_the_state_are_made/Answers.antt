use Rattle.store_core.proofs.Admits.{suiting-made}
use Rattle.store_core.proofs.laws.changes_that_suit_the_state_are_made.Goals as goal

pub returns : goal.returns
returns c = record { suited_is_made = suiting-made }
