use Rattle.std.proofs.Common.{◌≡◌, bytes_eq, List, ℕ, IsUtf8, refl, ap, ◌∙◌}
use Rattle.std.specs.Str.{chars}
use lib.Utf8.{encode}
use Rattle.patch_rules.specs.Notices.{diff_uri}
use Rattle.xml_names.proofs.Letters.{bytes_eq-chars}
use Rattle.patch_parse.proofs.diff_names.is_diff_uri.Goals as goal

diff_utf8 : IsUtf8 diff_uri
unfolding encode
diff_utf8 = (diff_uri, (refl, refl))

letters : chars diff_uri ≡ diff_uri
unfolding chars
letters = refl

pub returns : goal.returns
returns c = record {
  exact =
      let text : List ℕ = c.args.uri.now in
      c.eq.ensures ∙ bytes_eq-chars text diff_uri c.utf8.uri diff_utf8 ∙ ap (bytes_eq (chars text)) letters;
}
