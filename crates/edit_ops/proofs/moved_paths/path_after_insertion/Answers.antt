use Rattle.std.proofs.Common.{arith, rules}
use Rattle.std.proofs.lemmas.Grind.{common_steps}
use Rattle.edit_ops.proofs.WayLemmas.{is_small}
use Rattle.edit_ops.proofs.moved_paths.path_after_insertion.Goals as goal

pub overflow_add-number : goal.overflow_add-number
overflow_add-number c =
    let place = c.numbers.ensures.exact in
    let path = c.numbers-2.ensures.exact in
    let whole = c.in-Some.ensures.completes_path in
    let first = c.in-Some-split_first.ensures.cases in
    let small = is_small c.args.path.now c.args.parent.now c.in-Some-split_first.below.now c.in-Some-split_first.number.now (grind (arith, common_steps)) c.requires in
    search (rules, small)
