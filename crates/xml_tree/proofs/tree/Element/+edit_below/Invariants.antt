use Rattle.std.proofs.Common.{length}
use Rattle.xml_tree.proofs.tree.Element.+edit_below.Given as goal

abbrev pub decreases-edit_below : goal.decreases-edit_below
decreases-edit_below g l = length l.path.now
