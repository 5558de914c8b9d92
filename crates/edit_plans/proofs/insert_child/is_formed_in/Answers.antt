use Rattle.edit_plans.proofs.ParentAnswers.{formed_by_row}
use Rattle.edit_plans.proofs.insert_child.is_formed_in.Goals as goal

pub returns-in-Some : goal.returns-in-Some
returns-in-Some c = record { exact = formed_by_row c.args.parent.now.kind c.in-Some.kind c.args.parent.now.scope.now c.args.new.now c.in-Some.is c.is_formed_child.result c.is_formed_child.ensures.exact }
