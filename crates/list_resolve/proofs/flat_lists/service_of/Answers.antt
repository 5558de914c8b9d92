use Rattle.std.proofs.Common.{chars, ap, ◌∙◌}
use Rattle.xml_tree.specs.Tree.{child_elements_of}
use Rattle.list_resolve.specs.FlatLists.{first_service}
use Rattle.list_resolve.specs.inner.Views.{scoped_element_view}
use Rattle.list_resolve.proofs.Services.{all_services}
use Rattle.list_resolve.proofs.flat_lists.service_of.Goals as goal

pub loop-node-init : goal.loop-node-init
loop-node-init c =
    all_services (chars c.args.uri.now) (scoped_element_view c.root-scoped_element.result) c.nodes-node-items.result.now c.args.root.now.content c.nodes-node-items.ensures.nodes_content
    ∙ ap (λ s. first_service (chars c.args.uri.now) s (child_elements_of c.args.root.now)) c.root-scoped_element.ensures.scoped_meant
