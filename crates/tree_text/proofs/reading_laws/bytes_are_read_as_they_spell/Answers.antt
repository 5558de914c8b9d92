use Rattle.tree_text.proofs.SpellingLemmas.{not_utf8_answer, reads_tree, reads_value, spelled_answer, spelled_body}
use Rattle.tree_text.proofs.reading_laws.bytes_are_read_as_they_spell.Goals as goal

pub returns-clause-tree_is_read : goal.returns-clause-tree_is_read
returns-clause-tree_is_read c = reads_tree

pub returns-clause-spelled_tree : goal.returns-clause-spelled_tree
returns-clause-spelled_tree c = spelled_answer

pub returns-clause-not_utf8 : goal.returns-clause-not_utf8
returns-clause-not_utf8 c = not_utf8_answer

pub returns-clause-value_is_read : goal.returns-clause-value_is_read
returns-clause-value_is_read c = reads_value

pub returns-clause-spelled_value : goal.returns-clause-spelled_value
returns-clause-spelled_value c = spelled_body
