use Rattle.edit_plans.proofs.RemovalLemmas.{closes_by}
use Rattle.edit_plans.proofs.remove_child.neighbours_may_meet.Goals as goal

pub returns-in-Some : goal.returns-in-Some
returns-in-Some c = record {
  exact =
      closes_by c.args.parent.now.kind c.args.parent.now.scope.now c.args.parent.now.element.now.content c.args.child c.in-Some.kind c.part_before_child-left.result c.part_after_child-right.result c.may_follow.result c.in-Some.is c.part_before_child-left.ensures.exact c.part_after_child-right.ensures.exact c.may_follow.ensures.exact;
}
