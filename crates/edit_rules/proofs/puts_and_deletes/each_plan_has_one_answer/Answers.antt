use Rattle.edit_rules.proofs.OneAnswer.{one_attr, one_delete, one_put, one_spot}
use Rattle.edit_rules.proofs.puts_and_deletes.each_plan_has_one_answer.Goals as goal

pub returns : goal.returns
returns c = record {
  for_spot = one_spot;
  for_element = λ k spot e r s. one_put k.usage k.document k.steps spot e r s;
  for_attribute = λ k end p value r s. one_attr k.usage k.document k.steps end p value r s;
  for_deletion = one_delete;
}
