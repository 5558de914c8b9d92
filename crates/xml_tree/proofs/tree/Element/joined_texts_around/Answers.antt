use Rattle.std.proofs.Common.{sym, ap, ◌∙◌}
use Rattle.std.proofs.lemmas.Result.{IfOk-weaker}
use Rattle.xml_tree.specs.Tree.{Tree}
use Rattle.xml_tree.specs.Nodes.{joined_neighbor_texts, nodes_of, place}
use Rattle.xml_tree.proofs.Places.{nodes_of-content_of}
use Rattle.xml_tree.proofs.tree.Element.joined_texts_around.Goals as goal

pub returns-clause-ok : goal.returns-clause-ok
returns-clause-ok c =
    let same = c.deref.ensures.value ∙ sym (nodes_of-content_of c.self.inside.nodes.items c.self.invariant) ∙ ap (λ (e : Tree). nodes_of e.content) c.self.view_is in
    IfOk-weaker c.joined_texts_around.result _ _ (λ text is. is ∙ ap (λ l. joined_neighbor_texts (place c.args.child l) l) same) c.joined_texts_around.ensures.ok
