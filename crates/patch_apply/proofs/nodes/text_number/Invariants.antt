use Rattle.std.proofs.Common.{◌≡◌, ◌<◌, drop}
use Rattle.patch_rules.specs.PatchOperations.{text_number}
use Rattle.patch_apply.proofs.nodes.text_number.Given as goal

abbrev pub invariant-loop-i : goal.invariant-loop-i
invariant-loop-i l = record { found : text_number l.i l.left (drop l.i l.nodes) ≡ text_number 0 l.k l.nodes; some : 0 < l.left }
