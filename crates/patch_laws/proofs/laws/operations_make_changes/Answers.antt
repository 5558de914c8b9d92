use Rattle.patch_laws.proofs.LawStatements.{all_made, one_made}
use Rattle.patch_laws.proofs.laws.operations_make_changes.Goals as goal

pub returns : goal.returns
returns c = record { one_change = one_made; all_in_order = all_made }
