use Rattle.std.proofs.Common.{◌≡◌, chars, length}
use denote.Text.{Utf8}
use denote.Shadow.{shadow}
use Rattle.xml_grammar.specs.readers.RuleReaders.{drop_while_without}
use Rattle.xml_tokens.specs.Tokens.{is_raw_char}
use Rattle.xml_tokens.specs.readers.Literals.{cdata_end}
use Rattle.xml_tokens.proofs.character_runs.skip_raw.Given as goal

abbrev pub invariant-each : goal.invariant-each
invariant-each l = record { utf8 : shadow (Utf8 l.rest); left : drop_while_without is_raw_char cdata_end (chars l.text) ≡ drop_while_without is_raw_char cdata_end (chars l.rest) }

abbrev pub decreases-each : goal.decreases-each
decreases-each l = length l.rest
