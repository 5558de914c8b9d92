use Rattle.std.proofs.Common.{◌≡◌, ◌++◌}
use Rattle.tree_text.proofs.elements.push_each_decl.Given as goal

abbrev pub invariant-loop-decl : goal.invariant-loop-decl
invariant-loop-decl l = l.element ≡ record l.initial.element { decls = l.initial.element.decls ++ l.yielded }
