use Rattle.std.proofs.Common.{◌≡◌, ◌++◌, take}
use Rattle.edit_ops.proofs.moved_paths.append_numbers.Given as goal

abbrev pub invariant-loop-number : goal.invariant-loop-number
invariant-loop-number l = l.made ≡ l.fn.path ++ take l.number-index l.numbers
