use Rattle.std.proofs.Common.{◌≡◌, ◌+◌, length, drop, sym, ap, ◌∙◌, arith, min, eqb-true, eq-eqb}
use Rattle.std.proofs.lemmas.List.{drop_all}
use Rattle.xml_tree.specs.Nodes.{content_of}
use Rattle.xml_names.specs.Markup.{byte_len, tag_front, print_name}
use Rattle.xml_tree.specs.Print.{print, print_content}
use Rattle.xml_tree.specs.inner.Print.{print_node}
use Rattle.xml_names.proofs.PrintLengths.{byte_len-end_tag_text}
use Rattle.xml_tree.proofs.PrintedNodes.{no_nodes, some_nodes, byte_len-bare, byte_len-whole, byte_len-nodes, bare_sum, next_sum, whole_sum}
use Rattle.xml_tree.proofs.print_lengths.+printed.Goals as goal

pub printed_len-returns-then-is_empty : goal.printed_len-returns-then-is_empty
printed_len-returns-then-is_empty t c = record {
  exact =
      let e = c.args.element.now in let ns = c.nodes-nodes.result.now in
      let none = no_nodes ns e.content c.nodes-nodes.ensures.nodes_content (eqb-true (length ns) 0 (sym c.is_empty.ensures ∙ c.if-is_empty.true)) in
      bare_sum 18446744073709551615 (byte_len (tag_front e.name e.decls e.attrs)) c.tag_front_len-tag_front.result c.saturating_add.result (byte_len (print e))
      c.tag_front_len-tag_front.ensures.exact c.saturating_add.ensures (byte_len-bare e none);
}

pub printed_len-loop-node-preserved : goal.printed_len-loop-node-preserved
printed_len-loop-node-preserved t c =
    let ns = c.nodes-nodes.result.now in let i = c.loop-node.node-index in
    let next = byte_len-nodes ns i c.node-item.result c.loop-node-test.true c.node-item.is in
    record {
      fits = omega arith;
      counted = next_sum 18446744073709551615 c.loop-node.inside (byte_len (print_node c.node-item.result)) (byte_len (print_content (content_of (drop (i + 1) ns)))) _
          (byte_len (print_content (content_of (drop i ns)))) c.saturating_add-inside.result c.node_len.result
          c.loop-node.invariant.counted c.node_len.ensures.exact c.saturating_add-inside.ensures next;
    }

pub printed_len-returns : goal.printed_len-returns
printed_len-returns t c = record {
  exact =
      let e = c.args.element.now in let ns = c.nodes-nodes.result.now in let i = c.loop-node.node-index in
      let some = some_nodes ns e.content c.nodes-nodes.ensures.nodes_are_normal c.nodes-nodes.ensures.nodes_content (λ z. let both = eq-eqb (length ns) 0 z in cc) in
      let end = ap (λ l. byte_len (print_content (content_of l))) (drop_all i ns c.loop-node-test.false) in
      let all : byte_len (print_content (content_of ns)) ≡ byte_len (print_content e.content) = ap (λ k. byte_len (print_content k)) c.nodes-nodes.ensures.nodes_content in
      whole_sum 18446744073709551615 (byte_len (tag_front e.name e.decls e.attrs)) (byte_len (print_content (content_of ns))) (byte_len (print_name e.name))
      c.name_len.result c.tag_front_len-tag_front.result c.loop-node.inside c.saturating_add-2.result c.saturating_add-3.result c.saturating_add-4.result
      (byte_len (print e)) (byte_len (print_content (content_of (drop i ns))))
      c.tag_front_len-tag_front.ensures.exact c.loop-node.invariant.counted c.loop-node.invariant.fits end (c.name_len.ensures.exact ∙ ap (λ n. min (byte_len (print_name n)) 18446744073709551615) c.name.ensures.exact) c.saturating_add-2.ensures c.saturating_add-3.ensures c.saturating_add-4.ensures
      (byte_len-whole e some ∙ omega (arith, all, byte_len-end_tag_text e.name));
}
