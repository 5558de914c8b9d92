use Rattle.std.proofs.Common.{◌≡◌, ◌++◌, chars, length}
use denote.Text.{Utf8}
use denote.Shadow.{shadow}
use Rattle.xml_tokens.specs.Values.{normalized_raw}
use Rattle.xml_tokens.proofs.attribute_values.push_normalized_spaces.Given as goal

abbrev pub invariant-each : goal.invariant-each
invariant-each l = record { utf8 : shadow (Utf8 l.rest); left : l.value ++ normalized_raw (chars l.rest) ≡ l.initial.value ++ normalized_raw (chars l.run) }

abbrev pub decreases-each : goal.decreases-each
decreases-each l = length l.rest
