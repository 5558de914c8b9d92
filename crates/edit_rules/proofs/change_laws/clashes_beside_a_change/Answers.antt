use Rattle.edit_rules.proofs.ReplacedElements.{first_over, unique_over}
use Rattle.edit_rules.proofs.FirstBeside.{first_put, unique_put}
use Rattle.edit_rules.proofs.RemovedElements.{unique_without}
use Rattle.edit_rules.proofs.change_laws.clashes_beside_a_change.Goals as goal

pub returns : goal.returns
returns c = record {
  on_insertion = unique_put;
  insertion_first = λ u t parent new q gap kind found there le unique is. first_put u t parent new q gap there le unique kind is found;
  on_replacement = unique_over;
  replacement_first = λ u t parent child_element new q i kind found there is_kid unique is. first_over u t parent child_element new q i there is_kid unique kind is found;
  on_removal = unique_without;
}
