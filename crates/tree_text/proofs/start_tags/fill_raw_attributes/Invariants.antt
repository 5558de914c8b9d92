use Rattle.std.proofs.Common.{◌≡◌, ◌-◌, ◌++◌, chars}
use denote.Text.{Utf8}
use denote.Shadow.{shadow}
use Rattle.xml_grammar.specs.readers.RuleReaders.{read_at_most}
use Rattle.tree_text.specs.readers.Texts.{raw_attribute_follows, read_raw_attribute, read_raw_attributes}
use Rattle.xml_tokens.proofs.Loops.{finish}
use Rattle.tree_text.proofs.start_tags.fill_raw_attributes.Given as goal

abbrev pub invariant-loop : goal.invariant-loop
invariant-loop l = record { utf8 : shadow (Utf8 l.rest); left : read_raw_attributes (chars l.text) ≡ finish (λ front all. front ++ all) l.all.items (read_at_most raw_attribute_follows read_raw_attribute (l.end - l.counter) (chars l.rest)) }
