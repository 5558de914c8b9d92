use Rattle.std.proofs.Common.{◌+◌, suc, List, Ok, length, sym, ap, ◌∙◌}
use Rattle.std.specs.Prelude.{nat_le}
use Rattle.xml_tree.specs.Edits.{change_at}
use Rattle.xml_tree.specs.Nodes.{exchange_nodes}
use Rattle.xml_tree.specs.Tree.{at}
use Rattle.xml_tree.specs.declared.tree.Node.{Node}
use Rattle.patch_apply.specs.inner.ContentNodes.{nodes_height}
use Rattle.patch_apply.proofs.Depths.{some_if}
use Rattle.patch_apply.proofs.ActionTrees.{gap_deep, gap_made, gap_unlike}
use Rattle.patch_apply.proofs.elements.insert_content.Goals as goal

pub names_agree_at-requires : goal.names_agree_at-requires
names_agree_at-requires c = record { place_exists = some_if (at c.args.gap.now.path c.args.tree.now) _ c.requires.within }

pub returns-then-not-nodes_fit_depth : goal.returns-then-not-nodes_fit_depth
returns-then-not-nodes_fit_depth c = record {
  as_specified =
      let p = c.args.gap.now.path in let t = c.args.tree.now in
      gap_deep c.args.here.now p c.args.gap.now.place c.args.operation.now.content t (some_if (at p t) _ c.requires.within) c.requires.height_bounded
      (
      ap (λ (ns : List Node). nat_le (length p + suc (nodes_height ns)) 64) (sym c.nodes-nodes.ensures.content_nodes) ∙ sym c.nodes_fit_depth.ensures.exact
      ∙ c.if-not-nodes_fit_depth.true
      );
}

pub returns-then-not-names_agree_at : goal.returns-then-not-names_agree_at
returns-then-not-names_agree_at c = record {
  as_specified =
      let p = c.args.gap.now.path in let t = c.args.tree.now in
      gap_unlike c.args.here.now p c.args.gap.now.place c.args.operation.now.content t (some_if (at p t) _ c.requires.within) c.requires.height_bounded
      (
      ap (λ (ns : List Node). nat_le (length p + suc (nodes_height ns)) 64) (sym c.nodes-nodes.ensures.content_nodes) ∙ sym c.nodes_fit_depth.ensures.exact
      ∙ c.if-not-nodes_fit_depth.false
      )
      (sym c.names_agree_at.ensures.exact ∙ c.if-not-names_agree_at.true);
}

pub returns : goal.returns
returns c = record {
  as_specified =
      let p = c.args.gap.now.path in let i = c.args.gap.now.place in let t = c.args.tree.now in
      gap_made c.args.here.now p i c.args.operation.now.content t (some_if (at p t) _ c.requires.within) c.requires.height_bounded
      (
      ap (λ (ns : List Node). nat_le (length p + suc (nodes_height ns)) 64) (sym c.nodes-nodes.ensures.content_nodes) ∙ sym c.nodes_fit_depth.ensures.exact
      ∙ c.if-not-nodes_fit_depth.false
      )
      (sym c.names_agree_at.ensures.exact ∙ c.if-not-names_agree_at.false)
      ∙ ap (λ (ns : List Node). Ok (change_at p (exchange_nodes i i ns) t)) (sym (c.in_ok-copies.ensures.equal_copy ∙ c.nodes-nodes.ensures.content_nodes))
      ∙ ap Ok (sym c.in_ok-exchange_nodes_at.ensures.tree_changed);
}
