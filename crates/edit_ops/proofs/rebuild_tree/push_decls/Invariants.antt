use Rattle.std.proofs.Common.{◌≡◌, ◌++◌, take}
use Rattle.edit_ops.proofs.rebuild_tree.push_decls.Given as goal

abbrev pub invariant-loop-decl : goal.invariant-loop-decl
invariant-loop-decl l = l.made ≡ record l.fn.made { decls = l.fn.made.decls ++ take l.decl-index l.decls }
