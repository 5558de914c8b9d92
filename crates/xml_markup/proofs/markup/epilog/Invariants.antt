use Rattle.std.proofs.Common.{◌≡◌, ◌-◌, chars}
use denote.Text.{Utf8}
use denote.Shadow.{shadow}
use Rattle.xml_grammar.specs.TextReading.{read_sequence}
use Rattle.xml_grammar.specs.readers.RuleReaders.{read_at_most}
use Rattle.xml_markup.specs.readers.Markup.{unit_with, read_without_value, less_follows, read_misc, read_epilog}
use Rattle.xml_tokens.specs.readers.Tokens.{read_spaces}
use Rattle.xml_tokens.proofs.Loops.{finish}
use Rattle.xml_markup.proofs.markup.epilog.Given as goal

abbrev pub invariant-loop : goal.invariant-loop
invariant-loop l = record { utf8 : shadow (Utf8 l.rest); left : read_epilog (chars l.text) ≡ finish unit_with tt (read_at_most less_follows (read_sequence read_misc (λ _. read_without_value read_spaces)) (l.end - l.counter) (chars l.rest)) }
