use Rattle.std.proofs.Common.{length}
use Rattle.edit_ops.proofs.moved_paths.+path_below.Given as goal

abbrev pub decreases-path_below : goal.decreases-path_below
decreases-path_below l = length l.place.now
