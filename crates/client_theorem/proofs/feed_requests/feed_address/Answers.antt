use Rattle.std.proofs.Common.{encode_utf8_all, refl, ap, ◌∙◌}
use Rattle.xcap_uri.specs.Roots.{authority_of, path_of}
use Rattle.client_theorem.proofs.AsciiAddresses.{id_octets, root_octets}
use Rattle.client_theorem.proofs.feed_requests.feed_address.Goals as goal

pub returns : goal.returns
returns c =
    let root = c.args.root.now in
    let is_root = (c.roots_are_spelled_by_the_grammar.ensures.root_by_pieces root (authority_of root) (path_of root)).1 (c.text.ensures.valid_root_text, refl, refl) in
    let of_root = c.as_bytes.ensures.value ∙ root_octets c.text.result.now root (authority_of root) (path_of root) is_root c.text.utf8 c.text.ensures.exact in
    let of_id = c.as_bytes-4.ensures.value ∙ c.as_str-2.ensures.utf8_bytes ∙ ap encode_utf8_all c.in_ok-id.ensures.ok ∙ id_octets c.args.doc.now in
    record {
      ok =
          rw (
            c.in_ok-extend-6.ensures.appended_or_unchanged,
            c.in_ok-extend-5.ensures.appended_or_unchanged,
            c.in_ok-extend-4.ensures.appended_or_unchanged,
            c.in_ok-extend-3.ensures.appended_or_unchanged,
            c.in_ok-extend-2.ensures.appended_or_unchanged,
            c.in_ok-extend.ensures.appended_or_unchanged,
            c.in_ok-address.ensures.same_bytes,
            of_root,
            of_id,
            c.as_bytes-2.ensures.value,
            c.mode_text.ensures.exact,
            c.as_bytes-3.ensures.value,
            c.as_str.ensures.utf8_bytes,
          ) refl;
    }
