use Rattle.std.proofs.Common.{◌≡◌, true, sym, subst}
use Rattle.edit_ops.specs.Changes.{FitsTree}
use Rattle.edit_ops.specs.StagedChanges.{IsStaged}
use Rattle.store_core.specs.StoredTrees.{StoredTree}
use Rattle.store_core.proofs.cached_tree.CachedTree.make_in_place.Goals as goal

pub make_in_place-requires-clause-fits : goal.make_in_place-requires-clause-fits
make_in_place-requires-clause-fits c = subst (λ (t : StoredTree). FitsTree t.root c.args.change.now) (sym c.self.view_is) c.requires.fits

pub make_in_place-requires-clause-change_staged : goal.make_in_place-requires-clause-change_staged
make_in_place-requires-clause-change_staged c = subst (λ (t : StoredTree). IsStaged t.root c.args.change.now c.args.staged) (sym c.self.view_is) c.requires.change_staged

pub make_in_place-requires-clause-tree_owned : goal.make_in_place-requires-clause-tree_owned
make_in_place-requires-clause-tree_owned c = subst (λ (t : StoredTree). t.own ≡ true) (sym c.self.view_is) c.requires.tree_owned
