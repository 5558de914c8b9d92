use Rattle.std.proofs.Common.{Ok, sym, ap, ◌∙◌}
use Rattle.xml_tree.specs.Tree.{at}
use Rattle.patch_apply.proofs.Depths.{some_if}
use Rattle.patch_apply.proofs.ActionResults.{take_not}
use Rattle.patch_apply.proofs.ActionTrees.{take_made}
use Rattle.patch_apply.proofs.attributes.remove_attr.Goals as goal

pub returns-then-not-has_only_comments : goal.returns-then-not-has_only_comments
returns-then-not-has_only_comments c = record {
  as_specified = take_not c.args.path.now c.args.place c.args.operation.now.content c.args.tree.now (sym c.has_only_comments.ensures.exact ∙ c.if-not-has_only_comments.true);
}

pub returns : goal.returns
returns c = record {
  as_specified =
      let p = c.args.path.now in let t = c.args.tree.now in
      take_made p c.args.operation.now.content t (some_if (at p t) _ c.requires.place_exists) c.requires.height_bounded c.args.place
      (sym c.has_only_comments.ensures.exact ∙ c.if-not-has_only_comments.false)
      ∙ ap Ok (sym c.remove_attribute_at.ensures.tree_changed);
}
