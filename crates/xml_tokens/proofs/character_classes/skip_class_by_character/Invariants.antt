use Rattle.std.proofs.Common.{◌≡◌, chars, length}
use denote.Text.{Utf8}
use denote.Shadow.{shadow}
use Rattle.xml_grammar.specs.TextReading.{drop_while}
use Rattle.xml_tokens.specs.readers.Classes.{class_contains}
use Rattle.xml_tokens.proofs.character_classes.skip_class_by_character.Given as goal

abbrev pub invariant-each : goal.invariant-each
invariant-each l = record { utf8 : shadow (Utf8 l.rest); left : drop_while (class_contains l.class) (chars l.text) ≡ drop_while (class_contains l.class) (chars l.rest) }

abbrev pub decreases-each : goal.decreases-each
decreases-each l = length l.rest
