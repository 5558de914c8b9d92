use Rattle.std.proofs.Common.{◌≡◌, ◌-◌, chars}
use denote.Text.{Utf8}
use denote.Shadow.{shadow}
use Rattle.xml_grammar.specs.TextReading.{read_mapped}
use Rattle.xml_grammar.specs.readers.RuleReaders.{read_at_most, read_many}
use Rattle.xml_tokens.specs.readers.ValueParts.{read_reference_piece, value_with}
use Rattle.xml_tokens.specs.readers.Tokens.{reference_follows}
use Rattle.xml_tokens.proofs.Loops.{finish}
use Rattle.xml_tokens.proofs.attribute_values.push_references.Given as goal

abbrev pub invariant-loop : goal.invariant-loop
invariant-loop l = record { utf8 : shadow (Utf8 l.rest); left : read_mapped (value_with l.fn.value) (read_many reference_follows (read_reference_piece l.quote)) (chars l.text) ≡ finish value_with l.value (read_at_most reference_follows (read_reference_piece l.quote) (l.end - l.counter) (chars l.rest)) }
