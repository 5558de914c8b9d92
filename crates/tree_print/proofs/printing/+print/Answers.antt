use Rattle.std.proofs.Common.{◌++◌, length, sym, ap, ◌∙◌, eqb-true, eq-eqb}
use Rattle.xml_names.specs.Markup.{end_tag_text}
use Rattle.tree_print.proofs.PrintLemmas.{node_next, bare_end, filled_end}
use Rattle.tree_print.proofs.printing.+print.Goals as goal

pub push_rest_of_element-returns-then-is_empty : goal.push_rest_of_element-returns-then-is_empty
push_rest_of_element-returns-then-is_empty t c = record {
  appended =
      bare_end c.args.out.now c.push_str.new.self c.args.element.now c.nodes-nodes.result.now c.nodes-nodes.ensures.nodes_content (eqb-true (length c.nodes-nodes.result.now) 0 (sym c.is_empty.ensures ∙ c.if-is_empty.true)) c.in_ok-push_str.ensures.appends_chars;
}

pub push_rest_of_element-loop-node-preserved : goal.push_rest_of_element-loop-node-preserved
push_rest_of_element-loop-node-preserved t c =
    rw c.in_ok-push_node.ensures.adds_node (node_next c.loop-node.out _ c.nodes-nodes.result.now c.loop-node.node-index c.node-item.result c.loop-node-test.true c.node-item.is c.loop-node.invariant)

pub push_rest_of_element-returns : goal.push_rest_of_element-returns
push_rest_of_element-returns t c = record {
  appended =
      let e = c.args.element.now in
      filled_end c.args.out.now c.push.new.self c.loop-node.out c.push_end_tag.new.out e c.nodes-nodes.result.now c.loop-node.node-index c.nodes-nodes.ensures.nodes_content c.nodes-nodes.ensures.nodes_are_normal
      (λ z. let both = eq-eqb (length c.nodes-nodes.result.now) 0 z in let f = sym c.is_empty.ensures ∙ c.if-is_empty.false in cc)
      c.loop-node-test.false c.in_ok-push.ensures.appended c.loop-node.invariant (c.in_ok-push_end_tag.ensures.appended ∙ ap (λ n. c.loop-node.out ++ end_tag_text n) c.name.ensures.exact);
}
