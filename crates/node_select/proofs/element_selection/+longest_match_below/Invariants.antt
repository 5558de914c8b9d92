use Rattle.std.proofs.Common.{length}
use Rattle.node_select.proofs.element_selection.+longest_match_below.Given as goal

abbrev pub decreases-longest_match_below : goal.decreases-longest_match_below
decreases-longest_match_below l = length l.steps.now
