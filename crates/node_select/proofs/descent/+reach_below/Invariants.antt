use Rattle.std.proofs.Common.{length}
use Rattle.node_select.proofs.descent.+reach_below.Given as goal

abbrev pub decreases-reach_below : goal.decreases-reach_below
decreases-reach_below l = length l.steps.now
