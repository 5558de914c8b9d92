use Rattle.std.proofs.Common.{◌≡◌, List, ℕ, encode_utf8_all, ap, sym, ◌∙◌}
use Rattle.std.specs.Prelude.{codes}
use Rattle.std.specs.Str.{bytes_eq}
use Rattle.std.proofs.lemmas.Str.{encodes-chars}
use Rattle.xcap_uri.specs.Delimiters.{front_before}
use Rattle.xcap_app.proofs.client_arguments.has_scheme_http.Goals as goal

pub returns : goal.returns
returns c = record {
  exact =
      let bytes : c.as_bytes.result.now ≡ encode_utf8_all c.args.root.now = c.as_bytes.ensures.value ∙ sym (encodes-chars c.text.result.now c.text.utf8) ∙ ap encode_utf8_all c.text.ensures.exact in
      c.begins_with_http.ensures.exact ∙ ap (λ (text : List ℕ). bytes_eq (front_before 58 text) (codes "http")) bytes;
}
