use Rattle.std.proofs.Common.{◌∙◌}
use Rattle.xml_names.proofs.Letters.{bytes_eq-chars}
use Rattle.list_resolve.proofs.flat_lists.is_same_text.Goals as goal

pub returns : goal.returns
returns c = record { exact = c.eq.ensures ∙ bytes_eq-chars c.args.a.now c.args.b.now c.utf8.a c.utf8.b }
