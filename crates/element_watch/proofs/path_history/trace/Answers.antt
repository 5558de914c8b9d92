use Rattle.std.proofs.Common.{◌≤◌, List, length, subst, sym}
use Rattle.edit_ops.specs.Notes.{Note}
use Rattle.element_watch.proofs.Bounds.{few_of_all, trace_is}
use Rattle.element_watch.proofs.path_history.trace.Goals as goal

pub path_before_all_notes-requires-clause-within_max : goal.path_before_all_notes-requires-clause-within_max
path_before_all_notes-requires-clause-within_max c =
    let pieces = c.pieces.result in
    few_of_all pieces.0.now pieces.1.now (subst (λ (ns : List Note). length ns ≤ 64) (sym c.pieces.ensures.exact) c.requires.within_max)

pub returns : goal.returns
returns c = record {
  place_before = λ p.
      let pieces = c.pieces.result in
      trace_is pieces.0.now pieces.1.now c.args.notes.now c.args.path.now p c.path_before_all_notes.result c.pieces.ensures.exact c.path_before_all_notes.ensures.exact;
}
