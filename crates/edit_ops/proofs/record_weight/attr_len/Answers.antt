use Rattle.std.proofs.Common.{◌≡◌, ◌+◌, min, sym, ap, ◌∙◌, arith}
use Rattle.xml_names.specs.Markup.{print_name}
use Rattle.xml_tree.specs.PathTexts.{path_text}
use Rattle.edit_ops.specs.inner.OperationLengths.{value_text_len}
use Rattle.edit_ops.proofs.Operations.{attr-path}
use Rattle.edit_ops.proofs.record_weight.attr_len.Goals as goal

pub returns : goal.returns
returns c = record {
  exact =
      let p = c.args.at.now in let n = c.args.name.now in
      let sum : c.saturating_add-2.result ≡ min (value_text_len (path_text p) + value_text_len (print_name n) + 2 + 7) 18446744073709551615 = omega arith in
      sum ∙ ap (λ k. min (k + 7) 18446744073709551615) (sym (attr-path p n));
}
