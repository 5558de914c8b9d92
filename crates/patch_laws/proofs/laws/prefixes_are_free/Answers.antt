use Rattle.patch_laws.proofs.FreePrefixes.{IsPrefixFor-prefix_for}
use Rattle.patch_laws.proofs.laws.prefixes_are_free.Goals as goal

pub returns : goal.returns
returns c = record { free_of_declarations = IsPrefixFor-prefix_for }
