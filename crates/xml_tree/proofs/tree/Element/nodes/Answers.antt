use Rattle.std.proofs.Common.{sym, ap, ◌∙◌, subst, arith}
use Rattle.xml_tree.specs.Tree.{Tree}
use Rattle.xml_tree.specs.Nodes.{content_of, AreNormalized}
use Rattle.xml_tree.proofs.Places.{nodes_of-content_of, node_height-le}
use Rattle.xml_tree.proofs.tree.Element.nodes.Goals as goal

pub returns-clause-content_nodes : goal.returns-clause-content_nodes
returns-clause-content_nodes c = rw (← c.self.view_is) (c.deref.ensures.value ∙ sym (nodes_of-content_of c.self.inside.nodes.items c.self.invariant))

pub returns-clause-nodes_content : goal.returns-clause-nodes_content
returns-clause-nodes_content c = ap content_of c.deref.ensures.value ∙ ap (λ (e : Tree). e.content) c.self.view_is

pub returns-clause-is_no_higher : goal.returns-clause-is_no_higher
returns-clause-is_no_higher c = rw (c.deref.ensures.value, ← c.self.view_is) (λ k d h. omega (arith, node_height-le c.self.inside.nodes.items k d h))

pub returns-clause-nodes_are_normal : goal.returns-clause-nodes_are_normal
returns-clause-nodes_are_normal c = subst AreNormalized (sym c.deref.ensures.value) c.self.invariant
