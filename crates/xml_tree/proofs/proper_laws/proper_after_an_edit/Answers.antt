use Rattle.xml_tree.specs.Proper.{IsProperPart}
use Rattle.xml_tree.proofs.ProperEdits.{with-element, with-nodes, with-other, without}
use Rattle.xml_tree.proofs.proper_laws.proper_after_an_edit.Goals as goal

pub returns : goal.returns
returns c = record { on_insertion = with-element IsProperPart; on_replacement = with-other IsProperPart; on_removal = without IsProperPart; on_node_exchange = with-nodes IsProperPart }
