use Rattle.std.proofs.Common.{◌++◌, ap, ◌∙◌}
use Rattle.list_resolve.proofs.Texts.{all_text, nodes_text}
use Rattle.list_resolve.proofs.reference.element_text.Goals as goal

pub loop-node-init : goal.loop-node-init
loop-node-init c =
    ap (λ xs. xs ++ nodes_text c.nodes-node-items.result.now) c.empty_text-inside.ensures.holds_no_characters
    ∙ all_text c.nodes-node-items.result.now c.args.element.now.content c.nodes-node-items.ensures.nodes_content
