use Rattle.xml_tree.proofs.PlaceLaws.{child_elements-elements}
use Rattle.xml_tree.proofs.Places.{AreNormal-nodes_of, content_of-nodes_of, nodes_of-content_of}
use Rattle.xml_tree.proofs.laws.nodes_are_the_content.Goals as goal

pub returns : goal.returns
returns c = record { nodes_are_normal = AreNormal-nodes_of; nodes_make_content = content_of-nodes_of; normal_nodes_return = nodes_of-content_of; elements_of_nodes = child_elements-elements }
