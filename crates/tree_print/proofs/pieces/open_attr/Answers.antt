use Rattle.std.proofs.Common.{[], ◌∷◌, ◌+◌, ◌++◌, chars, arith}
use Rattle.xml_names.specs.Markup.{byte_len, print_attr, print_name, quoted_value}
use Rattle.tree_print.specs.inner.Parts.{attr_pieces, text_pieces}
use Rattle.tree_print.proofs.PieceLemmas.{attr_split, opens_by, two_pushed}
use Rattle.tree_print.proofs.pieces.open_attr.Goals as goal

pub returns : goal.returns
returns c = record {
  opens =
      let a = c.args.attr.now in
      opens_by (print_attr a) (attr_pieces a) c.args.parts.now c.push.new.self (32 ∷ []) (print_name a.name ++ (61 ∷ quoted_value a.value)) (5 + text_pieces (byte_len a.value)) (attr_split a)
      (two_pushed c.push.new.self.text c.push_quoted_value.new.parts.text c.args.parts.now.text (print_name a.name) (61 ∷ quoted_value a.value) c.push.ensures.text_before c.push_quoted_value.ensures.text_before)
      (omega (arith, c.push.ensures.more_pieces, c.push_quoted_value.ensures.more_pieces)) (omega arith);
}
