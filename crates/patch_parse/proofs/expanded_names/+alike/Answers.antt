use Rattle.std.proofs.Common.{ap, ◌∙◌}
use Rattle.std.specs.List.{list_all}
use Rattle.patch_parse.specs.inner.OperationContents.{node_names_agree}
use Rattle.patch_parse.proofs.ByNodes.{alike_in}
use Rattle.patch_parse.proofs.expanded_names.+alike.Goals as goal

pub content_names_agree-loop-node-init : goal.content_names_agree-loop-node-init
content_names_agree-loop-node-init t c =
    ap (list_all (node_names_agree c.args.c.now c.args.d.now)) c.nodes-node-items.ensures.content_nodes ∙ alike_in c.args.c.now c.args.d.now c.args.element.now.content
