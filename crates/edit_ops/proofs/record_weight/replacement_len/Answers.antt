use Rattle.std.proofs.Common.{◌≡◌, ◌+◌, min, false, codes, flat_map, arith}
use Rattle.xml_names.specs.Markup.{byte_len, print_decl}
use Rattle.xml_tree.specs.Print.{print}
use Rattle.xml_tree.specs.PathTexts.{path_text}
use Rattle.edit_ops.specs.declared.change.Change.TheVariants.{Replace}
use Rattle.edit_ops.specs.inner.OperationLengths.{value_text_len}
use Rattle.edit_ops.proofs.Operations.{filled_stops, replacement}
use Rattle.edit_ops.specs.DiffOperations.{change_operation as told}
use Rattle.edit_ops.proofs.record_weight.replacement_len.Goals as goal

pub returns : goal.returns
returns c = record {
  exact = λ e put.
      let ds = c.args.bindings.now in let p = c.args.at.now in
      let attrs : c.saturating_add-attrs.result ≡ min (value_text_len (path_text p) + 7) 18446744073709551615 = omega arith in
      filled_stops 18446744073709551615 7 (byte_len (flat_map print_decl ds)) c.saturating_add-attrs.result (value_text_len (path_text p) + 7) c.args.put (byte_len (print e))
      c.full_element_len.result (byte_len (print (told (codes "d") ds false (Replace p e)))) c.full_element_len.ensures.exact attrs put (replacement ds false p e);
}
