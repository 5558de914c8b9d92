use Rattle.std.proofs.Common.{◌≡◌, length, drop, chars, encode_utf8_all, sym, ap, ◌∙◌, arith}
use Rattle.std.proofs.lemmas.Str.{encodes-chars}
use Rattle.node_select.proofs.selector_reader.byte_offset.Goals as goal

pub returns : goal.returns
returns c = record {
  exact =
      let rest = c.skip_chars.result.now in
      let bytes : length rest ≡ length (encode_utf8_all (drop c.args.n (chars c.args.text.now))) = ap length (sym (encodes-chars rest c.skip_chars.utf8) ∙ ap encode_utf8_all c.skip_chars.ensures.exact) in
      omega (arith, bytes, c.saturating_sub.ensures);
}
