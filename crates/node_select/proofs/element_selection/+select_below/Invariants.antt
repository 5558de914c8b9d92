use Rattle.std.proofs.Common.{length}
use Rattle.node_select.proofs.element_selection.+select_below.Given as goal

abbrev pub decreases-select_below : goal.decreases-select_below
decreases-select_below l = length l.steps.now
