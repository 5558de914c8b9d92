use Rattle.edit_rules.proofs.StaysProper.{delete_leaves, put_leaves, written_leaves}
use Rattle.edit_rules.proofs.Twice.{written_is}
use Rattle.edit_rules.proofs.puts_and_deletes.planned_changes_leave_proper_documents.Goals as goal

pub returns : goal.returns
returns c = record {
  for_element = put_leaves;
  for_attribute = λ k uri local p value change h. written_leaves k.usage k.document k.steps uri local p value change (written_is k.usage k.document k.steps uri local p value change h);
  for_deletion = delete_leaves;
}
