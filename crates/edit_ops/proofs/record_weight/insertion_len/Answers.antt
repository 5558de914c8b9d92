use Rattle.std.proofs.Common.{false, codes, flat_map}
use Rattle.xml_names.specs.Markup.{byte_len, print_attr, print_decl}
use Rattle.xml_tree.specs.Print.{print}
use Rattle.edit_ops.specs.declared.change.Change.TheVariants.{Insert}
use Rattle.edit_ops.specs.DiffOperations.{insertion_attrs, change_operation as told}
use Rattle.edit_ops.proofs.Operations.{filled_stops, insertion}
use Rattle.edit_ops.proofs.record_weight.insertion_len.Goals as goal

pub returns : goal.returns
returns c = record {
  exact = λ e put.
      let ds = c.args.bindings.now in let p = c.args.parent.now in let g = c.args.gap in
      filled_stops 18446744073709551615 3 (byte_len (flat_map print_decl ds)) c.gap_len.result (byte_len (flat_map print_attr (insertion_attrs p g))) c.args.put (byte_len (print e))
      c.full_element_len.result (byte_len (print (told (codes "d") ds false (Insert p g e)))) c.full_element_len.ensures.exact c.gap_len.ensures.exact put (insertion ds false p g e);
}
