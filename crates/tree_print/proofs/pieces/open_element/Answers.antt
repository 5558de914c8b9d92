use Rattle.std.proofs.Common.{[], ◌∷◌, ◌+◌, ◌++◌, chars, flat_map, ap, arith}
use Rattle.xml_names.specs.Markup.{print_attr, print_decl, print_name}
use Rattle.xml_tree.specs.Print.{print}
use Rattle.tree_print.specs.inner.Parts.{attr_pieces, decl_pieces, element_pieces, ending_pieces, ending_print, total}
use Rattle.tree_print.proofs.PieceLemmas.{element_split, opens_by, two_pushed}
use Rattle.tree_print.proofs.pieces.open_element.Goals as goal

pub returns : goal.returns
returns c = record {
  opens =
      let e = c.args.element.now in
      let name = c.name.result.now in
      let decls = c.decls.result.now in
      let text = flat_map print_decl decls ++ (flat_map print_attr e.attrs ++ ending_print e) in
      let count = ap (total decl_pieces) c.decls.ensures.exact in
      opens_by (print e) (element_pieces e) c.args.parts.now c.push-2.new.self (60 ∷ []) (print_name name ++ text) (3 + (total decl_pieces decls + (total attr_pieces e.attrs + ending_pieces e)))
      (element_split e name decls c.name.ensures.exact c.decls.ensures.exact)
      (two_pushed c.push-2.new.self.text c.push.new.self.text c.args.parts.now.text (print_name name) text c.push-2.ensures.text_before c.push.ensures.text_before)
      (omega (arith, c.push-2.ensures.more_pieces, c.push.ensures.more_pieces)) (omega (arith, count));
}
