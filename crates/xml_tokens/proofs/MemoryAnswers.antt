-- What holds of a result also holds where the call may run out of memory.
use Rattle.std.proofs.Common.{Result, Ok, Err}
use Rattle.xml_names.specs.declared.read_error.ReadError.{ReadError}
use Rattle.xml_names.specs.declared.read_error.ReadError.TheVariants.{Fault, NoMemory}
use Rattle.xml_names.specs.ReadErrors.{ResultSatisfies}

pub answered_so : {A F : Type 0} (P Q : Result A F → Type 0) → ((answer : Result A F) → P answer → Q answer) → (r : Result A (ReadError F)) → ResultSatisfies P r → ResultSatisfies Q r
answered_so P Q h (Ok value) p = h (Ok value) p
answered_so P Q h (Err (Fault fault)) p = h (Err fault) p
answered_so P Q h (Err NoMemory) p = tt
