use Rattle.std.proofs.Common.{◌∙◌}
use Rattle.edit_plans.proofs.TagLemmas.{attrs_decide_form, list_formed}
use Rattle.edit_plans.proofs.child_attributes.are_attrs_formed.Goals as goal

pub returns-in-ResourceList : goal.returns-in-ResourceList
returns-in-ResourceList c = record { exact = list_formed c.args.tag.now.attrs c.args.kind c.in-ResourceList.is }

pub returns-in_default : goal.returns-in_default
returns-in_default c = record { exact = c.are_references_formed.ensures.exact ∙ attrs_decide_form c.args.kind c.args.tag.now.attrs c.args.tag.now.content c.in_default.not-ResourceList }
