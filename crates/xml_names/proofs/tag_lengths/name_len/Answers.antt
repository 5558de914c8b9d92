use Rattle.std.proofs.Common.{◌≢◌, [], length, ap, arith}
use Rattle.xml_names.proofs.PrintLengths.{byte_len-prefixed}
use Rattle.xml_names.proofs.tag_lengths.name_len.Goals as goal

pub returns : goal.returns
returns c = record {
  exact =
      let prefixed : c.args.name.now.prefix ≢ [] = λ e. cc (c.is_empty.ensures.exact.1 e) in
      let whole = byte_len-prefixed c.args.name.now prefixed in
      let prefix = ap length c.as_str.ensures.utf8_bytes in let local = ap length c.as_str-local.ensures.utf8_bytes in
      omega (arith, whole, prefix, local);
}
