use Rattle.std.proofs.Common.{◌≡◌, ◌-◌, chars}
use denote.Text.{Utf8}
use denote.Shadow.{shadow}
use Rattle.xml_grammar.specs.readers.RuleReaders.{read_at_most}
use Rattle.xml_tokens.specs.readers.ValueParts.{value_with}
use Rattle.tree_text.specs.readers.ContentReaders.{read_reference_piece}
use Rattle.xml_tokens.specs.readers.Tokens.{reference_follows}
use Rattle.tree_text.specs.readers.Texts.{read_unquoted_value}
use Rattle.xml_tokens.proofs.Loops.{finish}
use Rattle.tree_text.proofs.attribute_bodies.read_body_value.Given as goal

abbrev pub invariant-loop : goal.invariant-loop
invariant-loop l = record { utf8 : shadow (Utf8 l.rest); left : read_unquoted_value (chars l.text) ≡ finish value_with l.value (read_at_most reference_follows read_reference_piece (l.end - l.counter) (chars l.rest)) }
