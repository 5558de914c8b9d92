use Rattle.std.proofs.Common.{bytes_eq, ap, ◌∙◌}
use Rattle.std.proofs.lemmas.Str.{chars-nil}
use Rattle.tree_text.proofs.names.is_empty_uri.Goals as goal

pub returns : goal.returns
returns c = record { exact = c.is.ensures.exact ∙ ap (bytes_eq c.args.uri.now) chars-nil }
