use Rattle.std.proofs.Common.{◌≡◌, drop, take}
use Rattle.patch_rules.specs.PatchOperations.{parse_qname}
use Rattle.patch_rules.specs.inner.QNames.{cut_qname_from}
use Rattle.patch_parse.proofs.patch_actions.parse_qname.Given as goal

abbrev pub invariant-loop-i : goal.invariant-loop-i
invariant-loop-i l = cut_qname_from (take l.i l.text) (drop l.i l.text) ≡ parse_qname l.text
