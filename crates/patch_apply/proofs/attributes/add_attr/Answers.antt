use Rattle.std.proofs.Common.{Ok, sym, ap, ◌∙◌}
use Rattle.patch_apply.proofs.ActionResults.{attr_no_value, attr_twice}
use Rattle.patch_apply.proofs.ActionTrees.{attr_made, attr_unlike}
use Rattle.patch_apply.proofs.attributes.add_attr.Goals as goal

pub returns-in_default : goal.returns-in_default
returns-in_default c = record {
  as_specified = attr_no_value c.args.here.now c.args.name c.args.path.now c.args.operation.now.content c.args.tree.now (sym c.in_ok-found.ensures.ok ∙ c.in_default.is);
}

pub returns-then-has_attr_at : goal.returns-then-has_attr_at
returns-then-has_attr_at c = record {
  as_specified =
      attr_twice c.args.here.now c.args.name c.args.path.now c.args.operation.now.content c.args.tree.now c.in-Some.value (sym c.in_ok-found.ensures.ok ∙ c.in-Some.is)
      (sym c.has_attr_at.ensures.exact ∙ c.if-has_attr_at.true);
}

pub returns-then-not-attr_names_agree_at : goal.returns-then-not-attr_names_agree_at
returns-then-not-attr_names_agree_at c = record {
  as_specified =
      attr_unlike c.args.path.now c.args.operation.now.content c.args.tree.now c.requires.place_exists c.requires.height_bounded c.args.here.now c.args.name c.in-Some.value
      (sym c.in_ok-found.ensures.ok ∙ c.in-Some.is) (sym c.has_attr_at.ensures.exact ∙ c.if-has_attr_at.false)
      (sym c.attr_names_agree_at.ensures.exact ∙ c.if-not-attr_names_agree_at.true);
}

pub returns : goal.returns
returns c = record {
  as_specified =
      attr_made c.args.path.now c.args.operation.now.content c.args.tree.now c.requires.place_exists c.requires.height_bounded c.args.here.now c.args.name c.in-Some.value
      (sym c.in_ok-found.ensures.ok ∙ c.in-Some.is) (sym c.has_attr_at.ensures.exact ∙ c.if-has_attr_at.false)
      (sym c.attr_names_agree_at.ensures.exact ∙ c.if-not-attr_names_agree_at.false)
      ∙ ap Ok (sym c.in_ok-push_attribute_at.ensures.tree_changed);
}
