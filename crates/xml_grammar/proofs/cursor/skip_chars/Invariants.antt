use Rattle.std.proofs.Common.{◌≡◌, chars, drop}
use denote.Text.{Utf8}
use denote.Shadow.{shadow}
use Rattle.xml_grammar.proofs.cursor.skip_chars.Given as goal

abbrev pub invariant-each : goal.invariant-each
invariant-each l = record { utf8 : shadow (Utf8 l.rest); behind : drop l.left (chars l.rest) ≡ drop l.n (chars l.text) }

abbrev pub decreases-each : goal.decreases-each
decreases-each l = l.left
