use Rattle.node_select.proofs.EditedSelection.{select_shifted, select_remove_over, replaced, removed_none, removed_next}
use Rattle.node_select.proofs.step_laws.selection_follows_edits.Goals as goal

pub returns : goal.returns
returns g c = record {
  put_in = select_shifted;
  taken_out = select_remove_over;
  replaced_stays_selected = replaced;
  selected_out = removed_none;
  next_moves_up = removed_next;
}
