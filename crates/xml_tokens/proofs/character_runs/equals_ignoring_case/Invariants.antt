use Rattle.std.proofs.Common.{◌≡◌, chars, drop}
use denote.Text.{Utf8}
use denote.Shadow.{shadow}
use Rattle.xml_tokens.specs.Values.{equals_ignoring_case}
use Rattle.xml_tokens.proofs.character_runs.equals_ignoring_case.Given as goal

abbrev pub invariant-loop-expected : goal.invariant-loop-expected
invariant-loop-expected l = record { utf8 : shadow (Utf8 l.rest); left : equals_ignoring_case (chars l.text) l.word ≡ equals_ignoring_case (chars l.rest) (drop l.expected-index l.word) }
