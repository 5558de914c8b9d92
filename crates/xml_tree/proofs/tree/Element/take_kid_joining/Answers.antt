use Rattle.std.proofs.Common.{sym, ap, ◌∙◌}
use Rattle.xml_tree.specs.Tree.{Tree}
use Rattle.xml_tree.specs.Nodes.{joined_neighbor_texts, nodes_of, place}
use Rattle.xml_tree.proofs.Places.{nodes_of-content_of}
use Rattle.xml_tree.proofs.tree.Element.take_kid_joining.Goals as goal

pub remove_elem_joining-requires-clause-joined_texts : goal.remove_elem_joining-requires-clause-joined_texts
remove_elem_joining-requires-clause-joined_texts c =
    let same = ap (λ (e : Tree). nodes_of e.content) (sym c.self.view_is) ∙ nodes_of-content_of c.self.inside.nodes.items c.self.invariant in
    c.requires.joined_texts ∙ ap (λ l. joined_neighbor_texts (place c.args.child l) l) same
