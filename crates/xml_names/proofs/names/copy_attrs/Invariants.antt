use Rattle.std.proofs.Common.{◌≡◌, take}
use Rattle.xml_names.proofs.names.copy_attrs.Given as goal

abbrev pub invariant-loop-attr : goal.invariant-loop-attr
invariant-loop-attr l = l.made.items ≡ take l.attr-index l.attrs
