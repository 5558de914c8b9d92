use Rattle.xml_tree.specs.Proper.{IsProperPart}
use Rattle.xml_tree.proofs.ProperEdits.{put-element, put-other}
use Rattle.xml_tree.proofs.proper_laws.proper_when_put.Goals as goal

pub returns : goal.returns
returns c = record { inserted_is_proper = put-element IsProperPart; replaced_is_proper = put-other IsProperPart }
