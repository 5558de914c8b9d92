use Rattle.std.proofs.Common.{◌≡◌, bytes_eq, refl, ap, ◌∙◌}
use Rattle.std.specs.Str.{chars}
use Rattle.xml_names.specs.Scopes.{xml_uri}
use Rattle.tree_text.proofs.names.is_xml_uri.Goals as goal

letters : chars xml_uri ≡ xml_uri
unfolding chars xml_uri
letters = refl

pub returns : goal.returns
unfolding xml_uri
returns c = record { exact = c.is.ensures.exact ∙ ap (bytes_eq c.args.text.now) letters }
