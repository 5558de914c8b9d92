use Rattle.std.proofs.Common.{◌≡◌, ◌+◌, min, true, codes, flat_map, arith}
use Rattle.xml_names.specs.Markup.{byte_len, print_decl, print_name}
use Rattle.xml_tree.specs.Print.{print}
use Rattle.xml_tree.specs.PathTexts.{path_text}
use Rattle.edit_ops.specs.declared.change.Change.TheVariants.{SetAttr}
use Rattle.edit_ops.specs.inner.OperationLengths.{value_text_len}
use Rattle.edit_ops.proofs.Operations.{addition, valued_stops}
use Rattle.edit_ops.specs.DiffOperations.{change_operation as told}
use Rattle.edit_ops.proofs.record_weight.attr_addition_len.Goals as goal

pub returns : goal.returns
returns c = record {
  exact =
      let ds = c.args.bindings.now in let p = c.args.at.now in let n = c.args.name.now in let v = c.args.value.now in
      let attrs : c.saturating_add-attrs.result ≡ min (value_text_len (path_text p) + value_text_len (print_name n) + 16) 18446744073709551615 = omega arith in
      valued_stops 18446744073709551615 3 (byte_len (flat_map print_decl ds)) c.saturating_add-attrs.result (value_text_len (path_text p) + value_text_len (print_name n) + 16) v
      c.text_element_len.result (byte_len (print (told (codes "d") ds true (SetAttr p n v)))) c.text_element_len.ensures.exact attrs (addition ds p n v);
}
