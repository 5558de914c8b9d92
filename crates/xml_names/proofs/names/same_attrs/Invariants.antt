use Rattle.std.proofs.Common.{◌≡◌, take}
use Rattle.xml_names.proofs.names.same_attrs.Given as goal

abbrev pub invariant-loop-i : goal.invariant-loop-i
invariant-loop-i l = take l.i l.a ≡ take l.i l.b
