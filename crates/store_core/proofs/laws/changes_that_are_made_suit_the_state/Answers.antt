use Rattle.store_core.proofs.AcceptedChanges.{accepted-suits}
use Rattle.store_core.proofs.laws.changes_that_are_made_suit_the_state.Goals as goal

pub returns : goal.returns
returns c = record { made_suits = accepted-suits }
