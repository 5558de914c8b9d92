use Rattle.xml_tree.proofs.PlaceLaws.{at-change_at}
use Rattle.xml_tree.proofs.laws.other_places_stay.Goals as goal

pub returns : goal.returns
returns c = record { other_unchanged = at-change_at }
