use Rattle.std.proofs.Common.{length}
use Rattle.edit_plans.proofs.child_changes.+answer_below.Given as goal

abbrev pub decreases-answer_below : goal.decreases-answer_below
decreases-answer_below l = length l.way.now
