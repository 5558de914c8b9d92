use Rattle.std.proofs.Common.{◌≡◌, ◌+◌, ◌*◌, ◌-◌, chars}
use denote.Text.{Utf8}
use denote.Shadow.{shadow}
use Rattle.xml_grammar.specs.readers.RuleReaders.{read_at_most}
use Rattle.tree_text.specs.readers.Bindings.{HasSameOpenElements, lists}
use Rattle.tree_text.specs.readers.ContentReaders.{tree_with_pieces, read_markup_piece, read_tree_content}
use Rattle.tree_text.specs.readers.Texts.{markup_follows, read_element}
use Rattle.xml_tokens.proofs.Loops.{finish}
use Rattle.tree_text.proofs.elements.+nested.Given as goal

abbrev pub decreases-read_child_into : goal.decreases-read_child_into
decreases-read_child_into l = 5 * l.levels

abbrev pub decreases-push_markup : goal.decreases-push_markup
decreases-push_markup l = 5 * l.levels + 1

abbrev pub decreases-content : goal.decreases-content
decreases-content l = 5 * l.levels + 2

abbrev pub decreases-element_rest : goal.decreases-element_rest
decreases-element_rest l = 5 * l.levels + 3

abbrev pub decreases-fill_element : goal.decreases-fill_element
decreases-fill_element l = 5 * l.inner + 4

abbrev pub invariant-content-loop : goal.invariant-content-loop
invariant-content-loop l = record {
  utf8 : shadow (Utf8 l.rest);
  filled : read_tree_content l.fn.element (read_element l.levels (lists l.fn.bindings) l.depth) (chars l.text) ≡ finish tree_with_pieces l.element (read_at_most markup_follows (read_markup_piece (read_element l.levels (lists l.fn.bindings) l.depth)) (l.end - l.counter) (chars l.rest));
  back : HasSameOpenElements l.fn.bindings l.bindings;
}
