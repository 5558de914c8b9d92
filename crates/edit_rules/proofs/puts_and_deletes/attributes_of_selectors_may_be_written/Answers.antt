use Rattle.edit_rules.proofs.Writable.{attribute_writable}
use Rattle.edit_rules.proofs.puts_and_deletes.attributes_of_selectors_may_be_written.Goals as goal

pub returns : goal.returns
returns c = record { may_be_written = λ bindings default text s uri local h is. attribute_writable bindings default text s uri local h is }
