use Rattle.std.proofs.Common.{[], ◌∷◌, ◌+◌, ◌++◌, arith}
use Rattle.xml_tree.specs.Nodes.{content_of}
use Rattle.xml_tree.specs.Print.{print_content}
use Rattle.xml_tree.specs.inner.Print.{print_node}
use Rattle.tree_print.specs.inner.Parts.{node_pieces, total}
use Rattle.tree_print.proofs.PieceLemmas.{next_content, next_nodes, no_content, opens_in_front, opens_same, opens_whole, room_of_first, room_of_others}
use Rattle.tree_print.proofs.pieces.open_nodes.Goals as goal

pub returns-in_default : goal.returns-in_default
returns-in_default c = record {
  opens =
      opens_whole (print_content (content_of c.args.nodes.now)) (1 + total node_pieces c.args.nodes.now) c.args.parts.now [] (no_content c.args.nodes.now c.in_default.ensures.cases) (omega arith);
}

pub push-requires : goal.push-requires
push-requires c = room_of_others c.args.nodes.now c.in-Some.others.now c.in-Some.node.now c.args.parts.now.taken c.in-Some.ensures.cases.0 c.requires

pub open_node-requires : goal.open_node-requires
open_node-requires c = room_of_first c.args.nodes.now c.in-Some.others.now c.in-Some.node.now c.args.parts.now.taken c.push.new.self.taken c.in-Some.ensures.cases.0 c.push.ensures.one_more c.requires

pub returns : goal.returns
returns c = record {
  opens =
      let nodes = c.args.nodes.now in
      let n = c.in-Some.node.now in
      let others = c.in-Some.others.now in
      opens_same (print_node n ++ print_content (content_of others)) (print_content (content_of nodes)) (node_pieces n + (1 + total node_pieces others)) (1 + total node_pieces nodes)
      c.args.parts.now c.open_node.new.parts c.open_node.result.now (next_content nodes others n c.in-Some.ensures.cases.0) (next_nodes nodes others n c.in-Some.ensures.cases.0)
      (opens_in_front (print_node n) (print_content (content_of others)) (node_pieces n) (1 + total node_pieces others) c.args.parts.now c.push.new.self c.open_node.new.parts c.open_node.result.now c.push.ensures.text_before c.push.ensures.more_pieces c.open_node.ensures.opens);
}
