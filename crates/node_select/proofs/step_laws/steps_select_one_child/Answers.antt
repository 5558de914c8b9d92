use Rattle.node_select.proofs.SelectionAgreement.{one_selected, selected_is, no_zeroth}
use Rattle.node_select.proofs.step_laws.steps_select_one_child.Goals as goal

pub returns : goal.returns
returns g c = record {
  answer_is_one = one_selected;
  computed_path = selected_is;
  position_from_one = λ step child_elements i is s. no_zeroth step child_elements i is s.this;
}
