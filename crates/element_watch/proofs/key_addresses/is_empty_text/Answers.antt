use Rattle.std.proofs.Common.{◌∙◌, ap, bytes_eq}
use Rattle.std.proofs.lemmas.Str.{chars-nil}
use Rattle.element_watch.proofs.key_addresses.is_empty_text.Goals as goal

pub returns : goal.returns
returns c = record { exact = c.is.ensures.exact ∙ ap (bytes_eq c.args.text.now) chars-nil }
