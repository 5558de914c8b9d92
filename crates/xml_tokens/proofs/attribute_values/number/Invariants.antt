use Rattle.std.proofs.Common.{◌≡◌, ◌≤◌, chars, length, false}
use denote.Text.{Utf8}
use denote.Shadow.{shadow}
use Rattle.xml_grammar.specs.readers.RuleReaders.{read_digits}
use Rattle.xml_names.specs.Characters.{is_char}
use Rattle.xml_tokens.specs.declared.fault_kind.FaultKind.{FaultKind}
use Rattle.xml_tokens.specs.Tokens.{max_char}
use Rattle.xml_tokens.specs.readers.TokenViews.{digits_of}
use Rattle.xml_tokens.proofs.attribute_values.number.Given as goal

abbrev pub invariant-each : goal.invariant-each
invariant-each l = record {
  utf8 : shadow (Utf8 l.rest);
  fits : l.value ≤ 0x10FFFF;
  left : read_digits {Kind = FaultKind} (digits_of l.hexadecimal) max_char is_char 0 false (chars l.text) ≡ read_digits (digits_of l.hexadecimal) max_char is_char l.value l.any (chars l.rest);
}

abbrev pub decreases-each : goal.decreases-each
decreases-each l = length l.rest
