use Rattle.std.proofs.Common.{length}
use Rattle.node_select.proofs.step_match.+find_attr_within.Given as goal

abbrev pub decreases-find_attr_within : goal.decreases-find_attr_within
decreases-find_attr_within l = length l.lists.now
