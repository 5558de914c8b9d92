use Rattle.std.proofs.Common.{◌≡◌, bytes_eq, List, ℕ, IsUtf8, refl, ap, ◌∙◌}
use Rattle.std.specs.Str.{chars}
use lib.Utf8.{encode}
use Rattle.xml_names.specs.Scopes.{xml_prefix}
use Rattle.xml_names.proofs.Letters.{bytes_eq-chars}
use Rattle.xml_names.proofs.prefixes.is_xml_prefix.Goals as goal

xml_utf8 : IsUtf8 xml_prefix
unfolding encode
xml_utf8 = (xml_prefix, (refl, refl))

letters : chars xml_prefix ≡ xml_prefix
unfolding chars
letters = refl

pub returns : goal.returns
returns c = record {
  exact =
      let text : List ℕ = c.args.prefix.now in
      c.eq.ensures ∙ bytes_eq-chars text xml_prefix c.utf8.prefix xml_utf8 ∙ ap (bytes_eq (chars text)) letters;
}
