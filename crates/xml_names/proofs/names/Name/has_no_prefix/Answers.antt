use Rattle.std.proofs.Common.{◌∙◌, ap, bytes_eq}
use Rattle.std.proofs.lemmas.Str.{chars-nil}
use Rattle.xml_names.proofs.names.Name.has_no_prefix.Goals as goal

pub returns : goal.returns
returns c = record { exact = c.is.ensures.exact ∙ ap (bytes_eq c.args.self.now.prefix) chars-nil }
