use Rattle.std.proofs.Common.{chars, ap, ◌∙◌}
use Rattle.std.proofs.lemmas.Str.{chars-nil}
use Rattle.tree_print.proofs.output.Output.new.Goals as goal

pub returns : goal.returns
returns c = record { holds_no_characters = ap chars c.new.ensures.bytes ∙ chars-nil }
