use Rattle.std.proofs.Common.{◌+◌, false, codes, flat_map}
use Rattle.xml_names.specs.Markup.{byte_len, print_decl}
use Rattle.xml_tree.specs.Print.{print}
use Rattle.edit_ops.specs.declared.change.Change.TheVariants.{DropAttr}
use Rattle.edit_ops.specs.DiffOperations.{attr_path_text, change_operation as told}
use Rattle.edit_ops.specs.inner.OperationLengths.{value_text_len}
use Rattle.edit_ops.proofs.Operations.{bare_stops, dropped}
use Rattle.edit_ops.proofs.record_weight.attr_removal_len.Goals as goal

pub returns : goal.returns
returns c = record {
  exact =
      let ds = c.args.bindings.now in let p = c.args.at.now in let n = c.args.name.now in
      bare_stops 18446744073709551615 6 (byte_len (flat_map print_decl ds)) c.attr_len.result (value_text_len (attr_path_text p n) + 7)
      c.empty_element_len.result (byte_len (print (told (codes "d") ds false (DropAttr p n)))) c.empty_element_len.ensures.exact c.attr_len.ensures.exact (dropped ds false p n);
}
