use Rattle.patch_laws.proofs.ScopedNames.{ProperIn-Meets}
use Rattle.patch_laws.proofs.laws.proper_where_names_are_bound_alike.Goals as goal

pub returns : goal.returns
returns c = record { stays_proper = ProperIn-Meets }
