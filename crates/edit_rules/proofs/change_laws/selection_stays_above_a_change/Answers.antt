use Rattle.edit_rules.proofs.StaysSelected.{stays_selected}
use Rattle.edit_rules.proofs.change_laws.selection_stays_above_a_change.Goals as goal

pub returns : goal.returns
returns c = record { selected_still = stays_selected }
