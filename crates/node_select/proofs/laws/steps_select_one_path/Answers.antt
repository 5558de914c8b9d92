use Rattle.node_select.proofs.Along.{one_path, path_there, last_step_to, last_step_from}
use Rattle.node_select.proofs.ReachLemmas.{path_is}
use Rattle.node_select.proofs.laws.steps_select_one_path.Goals as goal

pub returns : goal.returns
returns g = record {
  computed_is_selected = path_is;
  one_path = one_path;
  path_exists = path_there;
  last_step_alone = λ first steps step root p i. (last_step_to first steps step root p i, last_step_from first steps step root p i);
}
