use Rattle.std.proofs.Common.{◌≡◌, bytes_eq, refl, ap, ◌∙◌}
use Rattle.std.specs.Str.{chars}
use Rattle.xml_names.specs.Scopes.{xmlns_uri}
use Rattle.tree_text.proofs.names.is_xmlns_uri.Goals as goal

letters : chars xmlns_uri ≡ xmlns_uri
unfolding chars xmlns_uri
letters = refl

pub returns : goal.returns
unfolding xmlns_uri
returns c = record { exact = c.is.ensures.exact ∙ ap (bytes_eq c.args.text.now) letters }
