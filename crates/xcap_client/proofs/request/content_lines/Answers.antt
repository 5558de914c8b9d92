use Rattle.std.proofs.Common.{◌∙◌, refl}
use Rattle.xcap_client.proofs.Lines.{content_is}
use Rattle.xcap_client.proofs.request.content_lines.Goals as goal

pub returns-in-Some : goal.returns-in-Some
returns-in-Some c = record {
  content_headers = λ body is. content_is c.as_bytes.result.now c.args.digits.now ∙ rw (is, c.as_bytes.ensures.value, c.as_str.ensures.utf8_bytes, c.in-Some.is) refl;
}
