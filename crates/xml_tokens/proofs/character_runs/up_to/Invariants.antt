use Rattle.std.proofs.Common.{◌≡◌, ℕ, List, ◌++◌, chars, length}
use denote.Text.{Utf8}
use denote.Shadow.{shadow}
use Rattle.xml_grammar.specs.readers.RuleReaders.{read_up_to}
use Rattle.xml_names.specs.Characters.{is_char}
use Rattle.xml_tokens.specs.declared.fault_kind.FaultKind.{FaultKind}
use Rattle.xml_tokens.proofs.RunLemmas.{with_front}
use Rattle.xml_tokens.proofs.character_runs.up_to.Given as goal

abbrev pub invariant-each : goal.invariant-each
invariant-each l = record {
  utf8 : shadow (Utf8 l.rest);
  front : List ℕ;
  whole : chars l.text ≡ front ++ chars l.rest;
  left : read_up_to {Kind = FaultKind} is_char l.end (chars l.text) ≡ with_front front (read_up_to is_char l.end (chars l.rest));
}

abbrev pub decreases-each : goal.decreases-each
decreases-each l = length l.rest
