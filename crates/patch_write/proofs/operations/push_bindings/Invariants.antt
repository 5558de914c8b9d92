use Rattle.std.proofs.Common.{◌≡◌, take}
use Rattle.patch_write.proofs.operations.push_bindings.Given as goal

abbrev pub invariant-loop-binding : goal.invariant-loop-binding
invariant-loop-binding l = l.made ≡ record l.initial.made { decls = take l.binding-index l.bindings }
