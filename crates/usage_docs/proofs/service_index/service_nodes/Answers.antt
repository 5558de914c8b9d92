use Rattle.std.proofs.Common.{◌∷◌, [], ◌++◌, ap, ◌∙◌}
use Rattle.usage_docs.specs.SchemaTable.{Scope}
use Rattle.usage_docs.specs.readers.ServiceNodes.{listed_nodes}
use Rattle.usage_docs.proofs.ListingLemmas.{all_listed}
use Rattle.usage_docs.proofs.service_index.service_nodes.Goals as goal

pub loop-node-init : goal.loop-node-init
loop-node-init c =
    let ns = c.nodes-node-items.result.now in
    ap (λ ms. ms ++ listed_nodes c.args.scope.now ns) c.new-made.ensures.items ∙ ap (λ (x : Scope). listed_nodes x ns) c.requires
    ∙ all_listed (c.args.root.now.decls ∷ []) ns c.args.root.now.content c.nodes-node-items.ensures.nodes_content
