use Rattle.std.proofs.Common.{◌≡◌, ◌++◌, flat_map}
use Rattle.tree_print.specs.AttributeBodyPrints.{body_escape}
use Rattle.tree_print.proofs.printing.push_body.Given as goal

abbrev pub invariant-loop-c : goal.invariant-loop-c
invariant-loop-c l = l.out ≡ l.initial.out ++ flat_map body_escape l.yielded
