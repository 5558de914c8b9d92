use Rattle.std.proofs.Common.{◌≡◌, ◌-◌, chars}
use denote.Text.{Utf8}
use denote.Shadow.{shadow}
use Rattle.xml_grammar.specs.readers.RuleReaders.{read_at_most}
use Rattle.xml_tokens.specs.readers.Tokens.{reference_follows}
use Rattle.xml_tokens.proofs.Loops.{finish}
use Rattle.xml_tokens.specs.readers.ValueParts.{read_reference_piece}
use Rattle.node_select.specs.readers.PartialReads.{value_with}
use Rattle.node_select.specs.readers.Selectors.{read_inside_quotes}
use Rattle.node_select.proofs.steps.inside_quotes.Given as goal

abbrev pub invariant-loop : goal.invariant-loop
invariant-loop l = record { utf8 : shadow (Utf8 l.rest); left : read_inside_quotes l.quote (chars l.text) ≡ finish value_with l.value (read_at_most reference_follows (read_reference_piece l.quote) (l.end - l.counter) (chars l.rest)) }
