use Rattle.std.proofs.Common.{Ok, sym, ap, ◌∙◌}
use Rattle.xml_tree.specs.Tree.{at}
use Rattle.patch_apply.proofs.Depths.{some_if}
use Rattle.patch_apply.proofs.ActionResults.{value_none}
use Rattle.patch_apply.proofs.ActionTrees.{value_made}
use Rattle.patch_apply.proofs.attributes.replace_attr.Goals as goal

pub returns-in_default : goal.returns-in_default
returns-in_default c = record {
  as_specified = value_none c.args.path.now c.args.place c.args.operation.now.content c.args.tree.now (sym c.in_ok-found.ensures.ok ∙ c.in_default.is);
}

pub returns : goal.returns
returns c = record {
  as_specified =
      let p = c.args.path.now in let t = c.args.tree.now in
      value_made p c.args.operation.now.content t (some_if (at p t) _ c.requires.place_exists) c.requires.height_bounded c.args.place c.in-Some.value
      (sym c.in_ok-found.ensures.ok ∙ c.in-Some.is)
      ∙ ap Ok (sym c.set_attribute_at.ensures.tree_changed);
}
