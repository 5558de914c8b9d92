use Rattle.patch_laws.proofs.LawStatements.{aggregate_replayed, patching_replayed}
use Rattle.patch_laws.proofs.laws.notices_are_replayed.Goals as goal

pub returns : goal.returns
returns c = record { step_by_step = patching_replayed; aggregated = aggregate_replayed }
