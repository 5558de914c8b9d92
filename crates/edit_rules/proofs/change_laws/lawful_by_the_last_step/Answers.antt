use Rattle.edit_rules.proofs.StaysSelected.{lawful_gap, lawful_over}
use Rattle.edit_rules.proofs.change_laws.lawful_by_the_last_step.Goals as goal

pub returns : goal.returns
returns c = record { new_child = lawful_gap; replaced_child = lawful_over }
