use Rattle.std.proofs.Common.{◌≡◌, bytes_eq, List, ℕ, IsUtf8, refl, ap, ◌∙◌}
use Rattle.std.specs.Str.{chars}
use lib.Utf8.{encode}
use Rattle.xml_names.specs.Scopes.{xmlns_prefix}
use Rattle.xml_names.proofs.Letters.{bytes_eq-chars}
use Rattle.xml_names.proofs.prefixes.is_xmlns_prefix.Goals as goal

xmlns_utf8 : IsUtf8 xmlns_prefix
unfolding encode
xmlns_utf8 = (xmlns_prefix, (refl, refl))

letters : chars xmlns_prefix ≡ xmlns_prefix
unfolding chars
letters = refl

pub returns : goal.returns
returns c = record {
  exact =
      let text : List ℕ = c.args.prefix.now in
      c.eq.ensures ∙ bytes_eq-chars text xmlns_prefix c.utf8.prefix xmlns_utf8 ∙ ap (bytes_eq (chars text)) letters;
}
