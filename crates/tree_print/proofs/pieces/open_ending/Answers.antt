use Rattle.std.proofs.Common.{[], ◌∷◌, ◌+◌, ◌++◌, chars, length, sym, ap, ◌∙◌, arith, eqb-true, eq-eqb}
use Rattle.xml_names.specs.Markup.{end_tag_text}
use Rattle.xml_tree.specs.Nodes.{content_of}
use Rattle.xml_tree.specs.Print.{print_content}
use Rattle.xml_tree.specs.Tree.{content_height}
use Rattle.tree_print.specs.inner.Parts.{ending_pieces, ending_print, node_pieces, total}
use Rattle.tree_print.proofs.PieceLemmas.{ending_empty, ending_split, opens_by, opens_whole, pieces_of_nodes, two_pushed}
use Rattle.tree_print.proofs.pieces.open_ending.Goals as goal

pub returns-then-is_empty : goal.returns-then-is_empty
returns-then-is_empty c = record {
  opens =
      let e = c.args.element.now in
      opens_whole (ending_print e) (ending_pieces e) c.args.parts.now (47 ∷ 62 ∷ [])
      (ending_empty e c.nodes-nodes.result.now c.nodes-nodes.ensures.nodes_content (eqb-true (length c.nodes-nodes.result.now) 0 (sym c.is_empty.ensures ∙ c.if-is_empty.true))) (omega arith);
}

pub push-requires-2 : goal.push-requires-2
push-requires-2 c = let same = ap content_height c.nodes-nodes.ensures.nodes_content in omega (arith, same, c.requires, c.push.ensures.one_more)

pub returns : goal.returns
returns c = record {
  opens =
      let e = c.args.element.now in
      let nodes = c.nodes-nodes.result.now in
      let name = c.name.result.now in
      let count = ap (total node_pieces) c.nodes-nodes.ensures.content_nodes in
      opens_by (ending_print e) (ending_pieces e) c.args.parts.now c.push-2.new.self (62 ∷ []) (print_content (content_of nodes) ++ end_tag_text name) (6 + total node_pieces nodes)
      (ending_split e nodes name c.nodes-nodes.ensures.nodes_content c.name.ensures.exact c.nodes-nodes.ensures.nodes_are_normal (λ z. let both = eq-eqb (length nodes) 0 z in let f = sym c.is_empty.ensures ∙ c.if-is_empty.false in cc))
      (two_pushed c.push-2.new.self.text c.push.new.self.text c.args.parts.now.text (print_content (content_of nodes)) (end_tag_text name) c.push-2.ensures.text_before c.push.ensures.text_before)
      (omega (arith, c.push-2.ensures.more_pieces, c.push.ensures.more_pieces)) (omega (arith, count, pieces_of_nodes e.content));
}
