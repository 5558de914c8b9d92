use Rattle.xcap_laws.proofs.Indexed.{index_is_consistent}
use Rattle.xcap_laws.proofs.state_laws.the_index_is_consistent.Goals as goal

pub returns : goal.returns
returns c = record { is_consistent = index_is_consistent }
