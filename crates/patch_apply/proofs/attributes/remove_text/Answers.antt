use Rattle.std.proofs.Common.{suc, List, Ok, sym, ap, ◌∙◌}
use Rattle.xml_tree.specs.Edits.{change_at}
use Rattle.xml_tree.specs.Nodes.{exchange_nodes}
use Rattle.xml_tree.specs.Tree.{at}
use Rattle.xml_tree.specs.declared.tree.Node.{Node}
use Rattle.patch_apply.proofs.Depths.{some_if}
use Rattle.patch_apply.proofs.ActionResults.{cut_not}
use Rattle.patch_apply.proofs.ActionTrees.{cut_made}
use Rattle.patch_apply.proofs.attributes.remove_text.Goals as goal

pub returns-then-not-has_only_comments : goal.returns-then-not-has_only_comments
returns-then-not-has_only_comments c = record {
  as_specified = λ before after. cut_not c.args.path.now c.args.place c.args.operation.now.content c.args.tree.now before after (sym c.has_only_comments.ensures.exact ∙ c.if-not-has_only_comments.true);
}

pub returns : goal.returns
returns c = record {
  as_specified = λ before after.
      let p = c.args.path.now in let i = c.args.place in let t = c.args.tree.now in
      cut_made p c.args.operation.now.content t (some_if (at p t) _ c.requires.place_exists) c.requires.height_bounded before after i
      (sym c.has_only_comments.ensures.exact ∙ c.if-not-has_only_comments.false)
      ∙ ap (λ (ns : List Node). Ok (change_at p (exchange_nodes i (suc i) ns) t)) (sym c.new.ensures.items)
      ∙ ap Ok (sym c.in_ok-exchange_node_at.ensures.ok);
}
