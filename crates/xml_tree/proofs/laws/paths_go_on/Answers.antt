use Rattle.xml_tree.proofs.PlaceLaws.{at-append, change_at-append}
use Rattle.xml_tree.proofs.laws.paths_go_on.Goals as goal

pub returns : goal.returns
returns c = record { place_further_down = at-append; change_further_down = change_at-append }
