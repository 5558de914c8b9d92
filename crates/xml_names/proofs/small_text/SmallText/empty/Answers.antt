use Rattle.std.proofs.Common.{chars, ap, ◌∙◌}
use Rattle.std.proofs.lemmas.Str.{chars-nil}
use Rattle.xml_names.proofs.small_text.SmallText.empty.Goals as goal

pub returns : goal.returns
returns g c = record { holds_no_characters = ap chars c.new.ensures.has_no_bytes ∙ chars-nil }
