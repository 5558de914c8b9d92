use Rattle.patch_laws.proofs.LawStatements.{attribute_selected, element_selected}
use Rattle.patch_laws.proofs.laws.paths_are_selected.Goals as goal

pub returns : goal.returns
returns c = record { element_path = element_selected; attribute_path = attribute_selected }
