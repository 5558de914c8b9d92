use Rattle.xml_tree.proofs.PlaceLaws.{child_elements-change_element, child_elements-cut, child_elements-put, child_elements-with_comment, child_elements-with_elem, child_elements-with_text}
use Rattle.xml_tree.proofs.laws.children_after_edits.Goals as goal

pub returns : goal.returns
returns c = record { child_put = child_elements-put; child_cut = child_elements-cut; child_changed = child_elements-change_element; element_appended = child_elements-with_elem; text_appended = child_elements-with_text; comment_appended = child_elements-with_comment }
