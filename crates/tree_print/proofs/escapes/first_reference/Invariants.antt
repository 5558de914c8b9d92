use Rattle.std.proofs.Common.{◌≡◌, take, flat_map}
use Rattle.tree_print.specs.inner.Escapes.{escaped_char}
use Rattle.tree_print.proofs.escapes.first_reference.Given as goal

abbrev pub invariant-loop-at : goal.invariant-loop-at
invariant-loop-at l = flat_map (escaped_char l.place) (take l.at l.bytes) ≡ take l.at l.bytes
