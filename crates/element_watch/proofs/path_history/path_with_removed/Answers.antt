use Rattle.std.proofs.Common.{arith, rules}
use Rattle.std.proofs.lemmas.Grind.{common_steps}
use Rattle.element_watch.proofs.Bounds.{is_small}
use Rattle.element_watch.proofs.path_history.path_with_removed.Goals as goal

pub overflow_add-number : goal.overflow_add-number
overflow_add-number c =
    let whole = c.in-Some.ensures.completes_path in
    let first = c.in-Some-split_first.ensures.cases in
    let small = is_small 4294967359 c.args.path.now c.args.parent.now c.in-Some-split_first.below.now c.in-Some-split_first.number.now (grind (arith, common_steps)) c.requires in
    search (rules, small)
