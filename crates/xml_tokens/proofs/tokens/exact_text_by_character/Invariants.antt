use Rattle.std.proofs.Common.{◌≡◌, chars, length}
use denote.Text.{Utf8}
use denote.Shadow.{shadow}
use Rattle.xml_grammar.specs.TextReading.{read_word}
use Rattle.xml_tokens.specs.declared.fault_kind.FaultKind.{FaultKind}
use Rattle.xml_tokens.proofs.tokens.exact_text_by_character.Given as goal

abbrev pub invariant-each : goal.invariant-each
invariant-each l = record { utf8 : shadow (Utf8 l.rest); utf8_left : shadow (Utf8 l.left); read : read_word {Kind = FaultKind} (chars l.front) (chars l.text) ≡ read_word (chars l.left) (chars l.rest) }

abbrev pub decreases-each : goal.decreases-each
decreases-each l = length l.left
