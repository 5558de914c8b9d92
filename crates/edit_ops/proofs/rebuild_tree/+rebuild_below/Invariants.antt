use Rattle.std.proofs.Common.{length}
use Rattle.edit_ops.proofs.rebuild_tree.+rebuild_below.Given as goal

abbrev pub decreases-rebuild_below : goal.decreases-rebuild_below
decreases-rebuild_below l = length l.way.now
