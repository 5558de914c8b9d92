use Rattle.std.proofs.Common.{chars, ap, ◌∙◌}
use Rattle.std.proofs.lemmas.Str.{chars-nil}
use Rattle.xml_names.proofs.text.Text.with_capacity.Goals as goal

pub returns : goal.returns
returns c = record { holds_no_characters = ap chars c.in_ok-bytes.ensures.holds_no_bytes ∙ chars-nil }
