use Rattle.std.proofs.Common.{arith, drop, length, take, ◌-◌}
use Rattle.std.proofs.lemmas.Grind.{common_steps}
use Rattle.element_watch.proofs.Bounds.{stays_small}
use Rattle.element_watch.proofs.path_history.+path_before_notes.Goals as goal

pub path_before_note-requires : goal.path_before_note-requires
path_before_note-requires t c =
    let rest = take (length c.args.notes.now - 1) (drop 1 c.args.notes.now) in
    let some = c.in-len1-up.len_at_least in
    stays_small c.args.notes.now rest c.args.path.now c.in_ok-after.after c.path_before_notes.result c.in_ok-after.was c.path_before_notes.ensures.place_before (grind (arith, common_steps)) c.requires.within_max c.requires.numbers_bounded
