use Rattle.std.proofs.Common.{◌≡◌, take, map}
use Rattle.tree_text.specs.readers.Bindings.{AreOpenNamespaces, lists}
use Rattle.tree_text.proofs.bindings.Bindings.from_scope.Given as goal

abbrev pub invariant-loop-decls : goal.invariant-loop-decls
invariant-loop-decls l = record {
  kept : AreOpenNamespaces l.made;
  given : lists l.made ≡ map (λ x. x.now) (take l.decls-index l.decls-items);
}
