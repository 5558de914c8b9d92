use Rattle.std.proofs.Common.{◌≡◌, ◌≤◌, chars, length}
use denote.Text.{Utf8}
use denote.Shadow.{shadow}
use Rattle.xml_grammar.specs.Digits.{decimal_digits}
use Rattle.xml_grammar.specs.Rules.{number_of_digits}
use Rattle.node_select.specs.declared.steps.TheConstants.{MAX_POSITION}
use Rattle.node_select.proofs.steps.position_value.Given as goal

abbrev pub invariant-each : goal.invariant-each
invariant-each l = record {
  utf8 : shadow (Utf8 l.rest);
  small : l.value ≤ MAX_POSITION;
  left : number_of_digits decimal_digits l.value (chars l.rest) ≡ number_of_digits decimal_digits 0 (chars l.digits);
}

abbrev pub decreases-each : goal.decreases-each
decreases-each l = length l.rest
