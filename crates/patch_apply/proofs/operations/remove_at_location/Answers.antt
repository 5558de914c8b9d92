use Rattle.std.proofs.Common.{subst}
use Rattle.patch_apply.specs.inner.LocationViews.{IsSameLocation}
use Rattle.patch_apply.specs.declared.locations.Location.{Location}
use Rattle.patch_apply.proofs.LocationActions.{remove_attr_at, remove_element_at, remove_text_at}
use Rattle.patch_apply.proofs.operations.remove_at_location.Goals as goal

pub returns-in-AtElement : goal.returns-in-AtElement
returns-in-AtElement c = record {
  as_specified = λ w is. remove_element_at c.args.before c.args.after c.in-AtElement.path c.args.operation.now.content c.args.tree.now c.remove_element.new.tree c.remove_element.result c.remove_element.ensures.as_specified w (subst (λ (s : Location). IsSameLocation c.args.tree.now s w) c.in-AtElement.is is);
}

pub returns-in-AtAttr : goal.returns-in-AtAttr
returns-in-AtAttr c = record {
  as_specified = λ w is. remove_attr_at c.args.before c.args.after c.in-AtAttr.path c.args.operation.now.content c.args.tree.now c.remove_attr.new.tree c.remove_attr.result c.in-AtAttr.place c.remove_attr.ensures.as_specified w (subst (λ (s : Location). IsSameLocation c.args.tree.now s w) c.in-AtAttr.is is);
}

pub returns-in-AtText : goal.returns-in-AtText
returns-in-AtText c = record {
  as_specified = λ w is. remove_text_at c.args.before c.args.after c.in-AtText.path c.args.operation.now.content c.args.tree.now c.remove_text.new.tree c.remove_text.result c.in-AtText.place (c.remove_text.ensures.as_specified c.args.before c.args.after) w (subst (λ (s : Location). IsSameLocation c.args.tree.now s w) c.in-AtText.is is);
}
