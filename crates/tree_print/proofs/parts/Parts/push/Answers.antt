use Rattle.tree_print.proofs.PartLemmas.{place_free}
use Rattle.tree_print.proofs.parts.Parts.push.Goals as goal

pub overflow_sub-at : goal.overflow_sub-at
overflow_sub-at c = place_free c.self.inside.stack c.self.inside.next c.args.self.now c.args.part c.self.invariant.1 c.self.view_is c.requires
