use Rattle.std.proofs.Common.{◌∙◌, bytes_eq, chars, ap}
use Rattle.xml_names.proofs.Letters.{bytes_eq-chars}
use Rattle.usage_docs.proofs.Words.{chars_ascii}
use Rattle.usage_docs.proofs.schema_table.is_word.Goals as goal

pub returns : goal.returns
returns c = record { exact = c.eq.ensures ∙ bytes_eq-chars c.args.text.now c.args.word.now c.utf8.text c.utf8.word ∙ ap (λ w. bytes_eq (chars c.args.text.now) w) (chars_ascii c.args.word.now c.requires) }
