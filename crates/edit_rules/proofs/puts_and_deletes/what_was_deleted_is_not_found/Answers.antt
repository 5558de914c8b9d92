use Rattle.edit_rules.proofs.Twice.{deleted_is}
use Rattle.edit_rules.proofs.puts_and_deletes.what_was_deleted_is_not_found.Goals as goal

pub returns : goal.returns
returns c = record {
  not_found = λ u t selector change h. (deleted_is u t selector change h).finds_nothing;
  without_fault = λ u t selector change h. (deleted_is u t selector change h).faultless;
}
