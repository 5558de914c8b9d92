use Rattle.edit_rules.proofs.TagChanges.{first_retag, formed_retag, valid_retag}
use Rattle.edit_rules.proofs.change_laws.new_attributes_beside_a_change.Goals as goal

pub returns : goal.returns
returns c = record {
  element_stays_valid = valid_retag;
  references_stay_formed = formed_retag;
  first_clash = λ u t parent child_element q i attrs kind found there is_kid at_p unique is. first_retag u t parent child_element q i attrs there is_kid at_p unique kind is found;
}
