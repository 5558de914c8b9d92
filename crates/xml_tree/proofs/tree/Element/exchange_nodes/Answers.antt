use Rattle.std.proofs.Common.{◌≤◌, ◌++◌, take, drop, length, List, sym, ap, ◌∙◌, subst}
use Rattle.std.proofs.lemmas.Result.{on_ok_weaker}
use Rattle.xml_tree.specs.Tree.{Tree, tree_of}
use Rattle.xml_tree.specs.Nodes.{content_of, nodes_of}
use Rattle.xml_tree.specs.declared.tree.Node.{Node}
use Rattle.xml_tree.proofs.Places.{nodes_of-content_of}
use Rattle.xml_tree.proofs.tree.Element.exchange_nodes.Goals as goal

pub exchange_node_range-requires-clause-within : goal.exchange_node_range-requires-clause-within
exchange_node_range-requires-clause-within c =
    let ns = c.self.inside.nodes.items in
    let same = ap (λ (e : Tree). nodes_of e.content) (sym c.self.view_is) ∙ nodes_of-content_of ns c.self.invariant in
    subst (λ (l : List Node). c.args.to ≤ length l) same c.requires.within

pub returns-clause-replaces_nodes : goal.returns-clause-replaces_nodes
returns-clause-replaces_nodes c =
    let ns = c.self.inside.nodes.items in let new = c.args.nodes.items in
    let same = nodes_of-content_of ns c.self.invariant in
    on_ok_weaker c.exchange_node_range.result (λ made. rw (← c.self.view_is)
    (ap (tree_of c.self.inside.name c.self.inside.decls.items c.self.inside.attrs.items)
    (made ∙ ap (λ l. content_of (take c.args.from l ++ (new ++ drop c.args.to l))) (sym same)))) c.exchange_node_range.ensures.replaces_nodes
