use Rattle.std.proofs.Common.{◌≡◌, ◌++◌, chars, length}
use denote.Text.{Utf8}
use denote.Shadow.{shadow}
use Rattle.xml_tokens.specs.Values.{normalize_line_ends}
use Rattle.xml_tokens.proofs.character_runs.normalize_lines_by_character.Given as goal

abbrev pub invariant-each : goal.invariant-each
invariant-each l = record { utf8 : shadow (Utf8 l.rest); left : l.text ++ normalize_line_ends (chars l.rest) ≡ normalize_line_ends (chars l.run) }

abbrev pub decreases-each : goal.decreases-each
decreases-each l = length l.rest
