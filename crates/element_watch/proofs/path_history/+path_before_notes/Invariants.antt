use Rattle.std.proofs.Common.{length}
use Rattle.element_watch.proofs.path_history.+path_before_notes.Given as goal

abbrev pub decreases-path_before_notes : goal.decreases-path_before_notes
decreases-path_before_notes l = length l.notes.now
