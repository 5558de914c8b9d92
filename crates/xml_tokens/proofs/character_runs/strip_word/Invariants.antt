use Rattle.std.proofs.Common.{◌≡◌, ◌++◌, chars, drop, take}
use denote.Text.{Utf8}
use denote.Shadow.{shadow}
use Rattle.xml_grammar.specs.TextReading.{starts_with_word}
use Rattle.xml_tokens.proofs.character_runs.strip_word.Given as goal

abbrev pub invariant-loop-expected : goal.invariant-loop-expected
invariant-loop-expected l = record {
  utf8 : shadow (Utf8 l.rest);
  left : starts_with_word l.word (chars l.text) ≡ starts_with_word (drop l.expected-index l.word) (chars l.rest);
  passed : chars l.text ≡ take l.expected-index l.word ++ chars l.rest;
}
