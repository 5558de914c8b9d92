use Rattle.std.proofs.Common.{subst}
use Rattle.patch_apply.specs.inner.LocationViews.{IsSameLocation}
use Rattle.patch_apply.specs.declared.locations.Location.{Location}
use Rattle.patch_apply.proofs.LocationActions.{replace_attr_at, replace_element_at, replace_text_at}
use Rattle.patch_apply.proofs.operations.replace_at_location.Goals as goal

pub returns-in-AtElement : goal.returns-in-AtElement
returns-in-AtElement c = record {
  as_specified = λ w is. replace_element_at c.args.here.now c.in-AtElement.path c.args.operation.now.content c.args.tree.now c.replace_element.new.tree c.replace_element.result c.replace_element.ensures.as_specified w (subst (λ (s : Location). IsSameLocation c.args.tree.now s w) c.in-AtElement.is is);
}

pub returns-in-AtAttr : goal.returns-in-AtAttr
returns-in-AtAttr c = record {
  as_specified = λ w is. replace_attr_at c.args.here.now c.in-AtAttr.path c.args.operation.now.content c.args.tree.now c.replace_attr.new.tree c.replace_attr.result c.in-AtAttr.place c.replace_attr.ensures.as_specified w (subst (λ (s : Location). IsSameLocation c.args.tree.now s w) c.in-AtAttr.is is);
}

pub returns-in-AtText : goal.returns-in-AtText
returns-in-AtText c = record {
  as_specified = λ w is. replace_text_at c.args.here.now c.in-AtText.path c.args.operation.now.content c.args.tree.now c.replace_text.new.tree c.replace_text.result c.in-AtText.place (c.replace_text.ensures.as_specified c.args.here.now) w (subst (λ (s : Location). IsSameLocation c.args.tree.now s w) c.in-AtText.is is);
}
