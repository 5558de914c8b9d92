use Rattle.std.proofs.Common.{refl, arith}
use Rattle.xml_tokens.specs.declared.character_classes.TheConstants.{MARKS}
use Rattle.xml_tokens.specs.readers.Classes.{is_ascii_passing}
use Rattle.xml_tokens.specs.readers.CharacterRuns.{is_plain_in_value}
use Rattle.xml_tokens.proofs.ClassLemmas.{marked}
use Rattle.xml_tokens.proofs.character_classes.is_value_byte.Goals as goal

pub returns : goal.returns
returns c = record { exact = marked MARKS 4 (is_ascii_passing is_plain_in_value) c.args.byte (omega arith) refl }
