use Rattle.std.proofs.Common.{◌≡◌, chars, drop}
use denote.Text.{Utf8}
use denote.Shadow.{shadow}
use Rattle.xml_grammar.specs.TextReading.{read_word}
use Rattle.xml_tokens.specs.declared.fault_kind.FaultKind.{FaultKind}
use Rattle.xml_tokens.proofs.tokens.word_letters.Given as goal

-- the rest of the word is still to be read from the rest of the text
abbrev pub invariant-loop-expected : goal.invariant-loop-expected
invariant-loop-expected l = record { utf8 : shadow (Utf8 l.rest); left : read_word {Kind = FaultKind} l.word (chars l.text) ≡ read_word (drop l.expected-index l.word) (chars l.rest) }
