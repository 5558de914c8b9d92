use Rattle.edit_plans.proofs.SideLemmas.{over_is}
use Rattle.edit_plans.proofs.replace_child.fits_replacing.Goals as goal

pub returns : goal.returns
returns c = record {
  exact =
      over_is c.args.parent.now.kind c.args.parent.now.scope.now c.args.parent.now.element.now.content c.args.new.now c.args.child c.is_valid_in-itself.result c.may_stand_between.result c.part_before_child-left.result c.part_in-part.result c.part_after_child-right.result
      c.is_valid_in-itself.ensures.valid_iff c.part_in-part.ensures.child_part c.part_before_child-left.ensures.exact c.part_after_child-right.ensures.exact c.may_stand_between.ensures.exact;
}
