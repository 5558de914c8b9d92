use Rattle.std.proofs.Common.{◌≡◌, ◌++◌, take, flat_map}
use Rattle.xml_names.specs.Markup.{print_decl}
use Rattle.tree_print.proofs.printing.push_decls.Given as goal

abbrev pub invariant-loop-decl : goal.invariant-loop-decl
invariant-loop-decl l = l.out ≡ l.initial.out ++ flat_map print_decl (take l.decl-index l.decls)
