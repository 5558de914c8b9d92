use Rattle.std.proofs.Common.{arith}
use Rattle.xml_names.specs.Markup.{print_attr}
use Rattle.xml_names.proofs.PrintLengths.{byte_len-next}
use Rattle.xml_names.proofs.tag_lengths.attrs_len.Goals as goal

pub loop-attr-preserved : goal.loop-attr-preserved
loop-attr-preserved c =
    let next = byte_len-next print_attr c.args.attrs.now c.loop-attr.attr-index c.attr-item.result c.loop-attr-test.true c.attr-item.is in
    record { fits = omega arith; counted = omega (arith, next) }
