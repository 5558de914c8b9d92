use Rattle.edit_rules.proofs.Twice.{written_again, written_is}
use Rattle.edit_rules.proofs.puts_and_deletes.an_attribute_is_put_twice.Goals as goal

pub returns : goal.returns
returns c = record { same_plan = λ u t selector uri local p value change ends_so h. written_again u t selector uri local p value change ends_so (written_is u t selector.steps uri local p value change h) }
