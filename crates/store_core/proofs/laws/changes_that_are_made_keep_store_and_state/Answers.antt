use Rattle.store_core.proofs.Keeps.{keeps}
use Rattle.store_core.proofs.laws.changes_that_are_made_keep_store_and_state.Goals as goal

pub returns : goal.returns
returns c = record { represents_valid_next = keeps }
