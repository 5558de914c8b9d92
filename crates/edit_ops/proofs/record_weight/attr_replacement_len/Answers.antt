use Rattle.std.proofs.Common.{◌+◌, false, codes, flat_map}
use Rattle.xml_names.specs.Markup.{byte_len, print_decl}
use Rattle.xml_tree.specs.Print.{print}
use Rattle.edit_ops.specs.declared.change.Change.TheVariants.{SetAttr}
use Rattle.edit_ops.specs.DiffOperations.{attr_path_text, change_operation as told}
use Rattle.edit_ops.specs.inner.OperationLengths.{value_text_len}
use Rattle.edit_ops.proofs.Operations.{rewriting, valued_stops}
use Rattle.edit_ops.proofs.record_weight.attr_replacement_len.Goals as goal

pub returns : goal.returns
returns c = record {
  exact =
      let ds = c.args.bindings.now in let p = c.args.at.now in let n = c.args.name.now in let v = c.args.value.now in
      valued_stops 18446744073709551615 7 (byte_len (flat_map print_decl ds)) c.attr_len.result (value_text_len (attr_path_text p n) + 7) v
      c.text_element_len.result (byte_len (print (told (codes "d") ds false (SetAttr p n v)))) c.text_element_len.ensures.exact c.attr_len.ensures.exact (rewriting ds p n v);
}
