use Rattle.std.proofs.Common.{◌≡◌, [], sym, ap, ◌∙◌, refl, encode_utf8_all}
use Rattle.std.proofs.lemmas.Str.{encodes-chars}
use Rattle.xcap_uri.specs.Roots.{path_of, authority_of}
use Rattle.std.specs.Option.{option_map_or}
use Rattle.xcap_client.specs.Requests.{user_field, content_fields}
use Rattle.xcap_client.proofs.Lines.{request_is}
use Rattle.xcap_client.proofs.request.all_pieces.Goals as goal

pub returns : goal.returns
returns c = record {
  request_pieces =
      let method = c.as_bytes.ensures.value ∙ c.as_str.ensures.utf8_bytes in
      let under : c.as_bytes-2.result.now ≡ encode_utf8_all (path_of c.args.root.now) = c.as_bytes-2.ensures.value ∙ sym (encodes-chars c.path.result.now c.path.utf8) ∙ ap encode_utf8_all c.path.ensures.root_path in
      let path = c.as_bytes-3.ensures.value ∙ c.as_str-2.ensures.utf8_bytes in
      let host : c.as_bytes-4.result.now ≡ encode_utf8_all (authority_of c.args.root.now) = c.as_bytes-4.ensures.value ∙ sym (encodes-chars c.authority.result.now c.authority.utf8) ∙ ap encode_utf8_all c.authority.ensures.exact in
      let users = c.user_line.ensures.user_header in
      let contents = c.content_lines.ensures.content_headers c.args.ask.now.body c.requires in
      request_is c.as_bytes.result.now c.as_bytes-2.result.now c.as_bytes-3.result.now c.as_bytes-4.result.now
      c.user_line.result.0.now c.user_line.result.1.now c.user_line.result.2.now
      c.content_lines.result.0.now c.content_lines.result.1.now c.content_lines.result.2.now c.content_lines.result.3.now c.content_lines.result.4.now
      c.as_slice.result.now (option_map_or user_field c.args.ask.now.user []) (option_map_or (content_fields c.args.ask.now.body) c.args.ask.now.media []) users contents
      ∙ rw (method, under, path, host, c.as_slice.ensures.exact) refl;
}
