use Rattle.std.proofs.Common.{◌≡◌, ◌++◌, take, flat_map}
use Rattle.xml_names.specs.Markup.{print_attr}
use Rattle.tree_print.proofs.printing.push_attrs.Given as goal

abbrev pub invariant-loop-attr : goal.invariant-loop-attr
invariant-loop-attr l = l.out ≡ l.initial.out ++ flat_map print_attr (take l.attr-index l.attrs)
