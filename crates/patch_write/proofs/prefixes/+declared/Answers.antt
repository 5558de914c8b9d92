use Rattle.patch_rules.specs.inner.DeclaredPrefixes.{declared_prefixes}
use Rattle.patch_write.specs.inner.DeclaredPrefixes.{node_prefixes}
use Rattle.patch_write.proofs.PrefixSets.{gains-decls, gains-end, gains-next, gains-nodes}
use Rattle.patch_write.proofs.prefixes.+declared.Goals as goal

pub add_element-loop-node-init : goal.add_element-loop-node-init
add_element-loop-node-init t c = gains-decls c.decls.result.now c.args.element.now.decls c.args.seen.now c.add_decls.new.seen c.decls.ensures.exact c.in_ok-add_decls.ensures.gains_prefixes

pub add_element-loop-node-preserved : goal.add_element-loop-node-preserved
add_element-loop-node-preserved t c =
    gains-next node_prefixes (declared_prefixes c.args.element.now.decls) c.nodes-nodes.result.now c.loop-node.node-index c.node-item.result c.args.seen.now c.loop-node.seen c.add_node.new.seen
    c.loop-node-test.true c.node-item.is c.loop-node.invariant c.in_ok-add_node.ensures.gains_prefixes

pub add_element-returns : goal.add_element-returns
add_element-returns t c = record {
  gains_prefixes =
      gains-nodes (declared_prefixes c.args.element.now.decls) c.nodes-nodes.result.now c.args.element.now.content c.args.seen.now c.loop-node.seen c.nodes-nodes.ensures.nodes_content
      (gains-end node_prefixes (declared_prefixes c.args.element.now.decls) c.nodes-nodes.result.now c.loop-node.node-index c.args.seen.now c.loop-node.seen c.loop-node-test.false c.loop-node.invariant);
}
