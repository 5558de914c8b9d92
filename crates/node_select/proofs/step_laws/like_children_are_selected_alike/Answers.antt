use Rattle.node_select.proofs.SelectionAgreement.{match_alike, select_alike}
use Rattle.node_select.proofs.step_laws.like_children_are_selected_alike.Goals as goal

pub returns : goal.returns
returns g c = record { match_alike = match_alike; selected_alike = select_alike }
