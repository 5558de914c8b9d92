use Rattle.edit_rules.proofs.SomeAnswer.{some_attr, some_delete, some_put, some_spot}
use Rattle.edit_rules.proofs.puts_and_deletes.each_plan_has_an_answer.Goals as goal

pub returns : goal.returns
returns c = record {
  for_spot = some_spot;
  for_element = some_put;
  for_attribute = some_attr;
  for_deletion = some_delete;
}
