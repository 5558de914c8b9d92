use Rattle.edit_rules.proofs.RemovedElements.{still_selected}
use Rattle.edit_rules.proofs.change_laws.selection_after_a_removal.Goals as goal

pub returns : goal.returns
returns c = record { last_step_decides = still_selected }
