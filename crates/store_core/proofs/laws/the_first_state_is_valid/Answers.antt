use Rattle.store_core.proofs.KeptAfter.{kept-first, kept-first-within}
use Rattle.store_core.proofs.laws.the_first_state_is_valid.Goals as goal

pub returns : goal.returns
returns c = record { first_state_valid = kept-first; valid_within_limits = kept-first-within }
