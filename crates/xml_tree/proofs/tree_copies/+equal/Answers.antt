use Rattle.std.proofs.Common.{◌≡◌, sym, ap, ◌∙◌}
use Rattle.xml_tree.specs.Tree.{Tree, tree_of}
use Rattle.xml_tree.specs.Nodes.{content_of}
use Rattle.xml_tree.proofs.Places.{same_nodes}
use Rattle.xml_tree.proofs.tree_copies.+equal.Goals as goal

pub equal-returns : goal.equal-returns
equal-returns t c = record {
  exact =
      let i = c.a.inside in let j = c.b.inside in
      let name = c.same.ensures.equal_iff.0 c.if-not-same.false in
      let decls = sym c.deref.ensures.value ∙ c.same_decls.ensures.exact.0 c.if-not-same_decls.false ∙ c.deref-2.ensures.value in
      let attrs = sym c.deref-else-not-same_decls.ensures.value ∙ c.same_attrs.ensures.exact.0 c.if-not-same_attrs.false ∙ c.deref-else-not-same_decls-2.ensures.value in
      let from : c.deref-3.result.now ≡ i.nodes.items = c.deref-3.ensures.value in
      let to : c.deref-4.result.now ≡ j.nodes.items = c.deref-4.ensures.value in (
        λ yes.
            let nodes = sym from ∙ c.equal_nodes.ensures.exact.0 yes ∙ to in
            sym c.a.view_is ∙ (λ k. tree_of (name k) (decls k) (attrs k) (content_of (nodes k))) ∙ c.b.view_is,
        λ e. c.equal_nodes.ensures.exact.1 (from ∙ same_nodes i.nodes.items j.nodes.items c.a.invariant c.b.invariant (ap (λ (x : Tree). x.content) (c.a.view_is ∙ e ∙ sym c.b.view_is)) ∙ sym to),
      );
}
