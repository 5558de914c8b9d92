use Rattle.patch_laws.proofs.LawStatements.{aggregate_read, patching_read}
use Rattle.patch_laws.proofs.laws.notices_are_read_back.Goals as goal

pub returns : goal.returns
returns c = record { step_by_step = patching_read; aggregated = aggregate_read }
