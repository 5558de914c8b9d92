use Rattle.std.proofs.Common.{arith}
use Rattle.xml_names.specs.Markup.{print_decl}
use Rattle.xml_names.proofs.PrintLengths.{byte_len-next}
use Rattle.xml_names.proofs.tag_lengths.decls_len.Goals as goal

pub loop-decl-preserved : goal.loop-decl-preserved
loop-decl-preserved c =
    let next = byte_len-next print_decl c.args.decls.now c.loop-decl.decl-index c.decl-item.result c.loop-decl-test.true c.decl-item.is in
    record { fits = omega arith; counted = omega (arith, next) }
