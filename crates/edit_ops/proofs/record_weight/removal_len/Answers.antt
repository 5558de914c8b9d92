use Rattle.std.proofs.Common.{◌≡◌, ◌+◌, min, false, codes, flat_map, arith}
use Rattle.xml_names.specs.Markup.{byte_len, print_decl}
use Rattle.xml_tree.specs.Print.{print}
use Rattle.xml_tree.specs.PathTexts.{path_text}
use Rattle.edit_ops.specs.declared.change.Change.TheVariants.{Remove}
use Rattle.edit_ops.specs.inner.OperationLengths.{value_text_len}
use Rattle.edit_ops.proofs.Operations.{bare_stops, removal}
use Rattle.edit_ops.specs.DiffOperations.{change_operation as told}
use Rattle.edit_ops.proofs.record_weight.removal_len.Goals as goal

pub returns : goal.returns
returns c = record {
  exact =
      let ds = c.args.bindings.now in let p = c.args.at.now in
      let attrs : c.saturating_add-attrs.result ≡ min (value_text_len (path_text p) + 7) 18446744073709551615 = omega arith in
      bare_stops 18446744073709551615 6 (byte_len (flat_map print_decl ds)) c.saturating_add-attrs.result (value_text_len (path_text p) + 7)
      c.empty_element_len.result (byte_len (print (told (codes "d") ds false (Remove p)))) c.empty_element_len.ensures.exact attrs (removal ds false p);
}
