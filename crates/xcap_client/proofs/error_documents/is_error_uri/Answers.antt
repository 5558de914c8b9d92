use Rattle.std.proofs.Common.{◌≡◌, bytes_eq, List, ℕ, IsUtf8, refl, ap, ◌∙◌}
use Rattle.std.specs.Str.{chars}
use lib.Utf8.{encode}
use Rattle.xml_names.proofs.Letters.{bytes_eq-chars}
use Rattle.xcap_client.specs.ErrorDocuments.{error_uri}
use Rattle.xcap_client.proofs.error_documents.is_error_uri.Goals as goal

in_utf8 : IsUtf8 error_uri
unfolding encode
in_utf8 = (error_uri, (refl, refl))

letters : chars error_uri ≡ error_uri
unfolding chars
letters = refl

pub returns : goal.returns
returns c = record {
  exact =
      let uri : List ℕ = c.args.uri.now in
      c.eq.ensures ∙ bytes_eq-chars uri error_uri c.utf8.uri in_utf8 ∙ ap (bytes_eq (chars uri)) letters;
}
