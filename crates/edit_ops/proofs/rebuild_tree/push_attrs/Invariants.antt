use Rattle.std.proofs.Common.{◌≡◌, ◌++◌, take}
use Rattle.edit_ops.proofs.rebuild_tree.push_attrs.Given as goal

abbrev pub invariant-loop-attr : goal.invariant-loop-attr
invariant-loop-attr l = l.made ≡ record l.fn.made { attrs = l.fn.made.attrs ++ take l.attr-index l.attrs }
