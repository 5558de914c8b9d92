use Rattle.std.proofs.Common.{arith}
use Rattle.xml_names.specs.declared.names.Attr.{Attr}
use Rattle.xml_names.proofs.PrintLengths.{byte_len-attr}
use Rattle.xml_names.proofs.tag_lengths.attr_len.Goals as goal

pub returns : goal.returns
returns c = record {
  exact =
      let attr : Attr = record { name = c.args.name.now; value = c.args.value.now } in
      let whole = byte_len-attr attr in
      omega (arith, whole);
}
