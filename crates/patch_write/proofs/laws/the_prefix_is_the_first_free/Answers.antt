use Rattle.patch_rules.proofs.FreePrefix.{is_first_free}
use Rattle.patch_write.proofs.laws.the_prefix_is_the_first_free.Goals as goal

pub returns : goal.returns
returns c = record { first_unused = is_first_free }
