use Rattle.usage_docs.proofs.GapLemmas.{insertion_by_parts}
use Rattle.usage_docs.proofs.Neighbours.{insertion}
use Rattle.usage_docs.proofs.insertion_laws.insertion_is_local.Goals as goal

pub returns : goal.returns
returns c = record { by_model = insertion; by_parts = insertion_by_parts }
