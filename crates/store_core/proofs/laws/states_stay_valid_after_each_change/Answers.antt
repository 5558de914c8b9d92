use Rattle.store_core.proofs.KeptAfter.{kept-state_after}
use Rattle.store_core.proofs.laws.states_stay_valid_after_each_change.Goals as goal

pub returns : goal.returns
returns c = record { valid_after = kept-state_after }
