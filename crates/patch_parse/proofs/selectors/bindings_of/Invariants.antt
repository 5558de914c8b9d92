use Rattle.std.proofs.Common.{◌≡◌, take}
use Rattle.patch_parse.proofs.selectors.bindings_of.Given as goal

abbrev pub invariant-loop-binding : goal.invariant-loop-binding
invariant-loop-binding l = l.made ≡ take l.binding-index l.binding-items
