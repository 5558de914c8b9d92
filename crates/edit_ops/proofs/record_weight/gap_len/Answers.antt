use Rattle.std.proofs.Common.{flat_map, ap, ◌∙◌, arith}
use Rattle.xml_names.specs.Markup.{byte_len, print_attr}
use Rattle.edit_ops.specs.DiffOperations.{insertion_attrs}
use Rattle.edit_ops.proofs.Operations.{gap-first, gap-later}
use Rattle.edit_ops.proofs.record_weight.gap_len.Goals as goal

pub returns-then-gap-eq0 : goal.returns-then-gap-eq0
returns-then-gap-eq0 c = record {
  exact =
      let p = c.args.parent.now in
      let whole = ap (λ g. byte_len (flat_map print_attr (insertion_attrs p g))) c.if-gap-eq0.true ∙ gap-first p in
      omega (arith, whole);
}

pub returns : goal.returns
returns c = record {
  exact =
      let whole = gap-later c.args.parent.now c.args.gap c.if-gap-eq0.false in
      omega (arith, whole);
}
