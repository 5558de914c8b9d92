use Rattle.std.proofs.lemmas.Str.{chars-nil}
use Rattle.xml_grammar.proofs.cursor.empty_str.Goals as goal

pub returns : goal.returns
returns c = record { has_no_characters = chars-nil }
