use Rattle.std.proofs.Common.{IfOk, sym, subst}
use Rattle.edit_ops.specs.StagedChanges.{IsStagedLocally}
use Rattle.edit_ops.proofs.staged_change.stage_here.Goals as goal

pub returns-in-Insert-clause-stages_change : goal.returns-in-Insert-clause-stages_change
returns-in-Insert-clause-stages_change c = subst (λ change. IfOk c.stage_child.result (λ made. IsStagedLocally change c.args.here.now made)) (sym c.in-Insert.is) c.stage_child.ensures.child_with_room

pub returns-in-SetAttr-clause-stages_change : goal.returns-in-SetAttr-clause-stages_change
returns-in-SetAttr-clause-stages_change c = subst (λ change. IfOk c.stage_attribute.result (λ made. IsStagedLocally change c.args.here.now made)) (sym c.in-SetAttr.is) c.stage_attribute.ensures.attr_with_room
