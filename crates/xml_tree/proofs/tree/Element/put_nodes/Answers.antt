use Rattle.std.proofs.Common.{length, sym, ap, ◌∙◌}
use Rattle.std.specs.Vec.{vec_len}
use Rattle.xml_tree.specs.Tree.{Tree}
use Rattle.xml_tree.specs.Nodes.{nodes_of}
use Rattle.xml_tree.proofs.Places.{nodes_of-content_of}
use Rattle.xml_tree.proofs.tree.Element.put_nodes.Goals as goal

pub destroy_empty-requires : goal.destroy_empty-requires
destroy_empty-requires c =
    let ns = c.self.inside.nodes in
    ap vec_len c.replace-none.ensures.value
    ∙ (ns.ok.0 ∙ ap length (sym (nodes_of-content_of ns.items c.self.invariant) ∙ ap nodes_of (ap (λ (e : Tree). e.content) c.self.view_is ∙ c.requires.empty)))
