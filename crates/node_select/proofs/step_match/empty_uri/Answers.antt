use Rattle.std.proofs.lemmas.Str.{chars-nil}
use Rattle.node_select.proofs.step_match.empty_uri.Goals as goal

pub returns : goal.returns
returns c = record { holds_no_characters = chars-nil }
