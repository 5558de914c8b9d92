use Rattle.std.proofs.Common.{sym, chars}
use Rattle.tree_text.proofs.ContentFronts.{nothing_onto}
use Rattle.tree_text.proofs.elements.push_run.Goals as goal

pub returns-then-run_ends : goal.returns-then-run_ends
returns-then-run_ends c = record { reads_onto = nothing_onto c.args.element.now (chars c.args.text.now) (sym c.if-run_ends.ensures.exact) }
