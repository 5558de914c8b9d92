use Rattle.std.proofs.Common.{false, refl}
use Rattle.xml_tree.specs.Tree.{child_elements_of}
use Rattle.edit_plans.proofs.ParentAnswers.{true_false}
use Rattle.edit_plans.proofs.RemovalLemmas.{none_still, still_by_next}
use Rattle.edit_plans.proofs.remove_child.still_selects_child.Goals as goal

pub returns-in-None : goal.returns-in-None
returns-in-None c = record {
  exact =
      (λ h. absurd (true_false false h refl), λ h. absurd (none_still c.args.parent.now.scope.now c.args.step.now (child_elements_of c.args.parent.now.element.now) c.args.child c.in-None.is c.requires h));
}

pub returns-in-Some : goal.returns-in-Some
returns-in-Some c = record {
  exact =
      let s = still_by_next c.args.parent.now.scope.now c.args.step.now (child_elements_of c.args.parent.now.element.now) c.args.child c.in-Some.field-0 c.in-Some.is c.requires in
      (λ h. s.1 (c.next_passes.ensures.exact.0 h), λ h. c.next_passes.ensures.exact.1 (s.0 h));
}
