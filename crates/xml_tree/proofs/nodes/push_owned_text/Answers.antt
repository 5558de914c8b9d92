use Rattle.std.proofs.Common.{arith}
use Rattle.xml_tree.proofs.Places.{AreNormal-push_own}
use Rattle.xml_tree.proofs.nodes.push_owned_text.Goals as goal

pub returns-clause-stays_normal : goal.returns-clause-stays_normal
returns-clause-stays_normal c = grind (arith, AreNormal-push_own)
