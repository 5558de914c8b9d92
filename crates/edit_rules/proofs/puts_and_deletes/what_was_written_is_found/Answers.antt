use Rattle.edit_rules.proofs.Twice.{written_change, written_finds, written_is}
use Rattle.edit_rules.proofs.puts_and_deletes.what_was_written_is_found.Goals as goal

pub returns : goal.returns
returns c = record {
  value_found = λ k uri local p value change h. written_finds k.usage k.document k.steps uri local p value change (written_is k.usage k.document k.steps uri local p value change h);
  without_fault = λ k uri local p value change h. written_change k.usage k.document k.steps uri local p value change (written_is k.usage k.document k.steps uri local p value change h);
}
