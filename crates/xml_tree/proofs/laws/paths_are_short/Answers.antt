use Rattle.xml_tree.proofs.PlaceLaws.{height-at}
use Rattle.xml_tree.proofs.laws.paths_are_short.Goals as goal

pub returns : goal.returns
returns c = record { path_within_height = height-at }
