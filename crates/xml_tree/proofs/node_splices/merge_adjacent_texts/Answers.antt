use Rattle.std.proofs.Common.{[], ◌∷◌, ◌∙◌}
use Rattle.xml_tree.proofs.RunLemmas.{content_of-front}
use Rattle.xml_tree.proofs.node_splices.merge_adjacent_texts.Goals as goal

pub loop-node-preserved : goal.loop-node-preserved
loop-node-preserved c =
    let kept = c.loop-node.invariant in
    record {
      normal = c.in_ok-push_node.ensures.stays_normal kept.normal;
      same = c.in_ok-push_node.ensures.adds_node ∙ content_of-front c.loop-node.made.items c.loop-node.yielded (c.in-Some.node ∷ []) kept.same;
    }
