use Rattle.std.proofs.Common.{sym, subst}
use Rattle.std.proofs.lemmas.Result.{on_ok_weaker}
use Rattle.store_core.specs.inner.UnsharedTrees.{IsUnshared}
use Rattle.store_core.specs.inner.StoreMemory.{unshared_flags}
use Rattle.store_core.proofs.SharedTrees.{own-missing, own-written, same-written}
use Rattle.store_core.proofs.step.unshare.Goals as goal

pub returns-in-Some-clause-contents_unchanged : goal.returns-in-Some-clause-contents_unchanged
returns-in-Some-clause-contents_unchanged c =
    let w = c.unshare_tree.new.entry in
    same-written c.args.doc.now c.args.documents.now.entries _ c.in-Some.entry.now w (c.get_mut.follows.holds w).0 c.in-Some.ensures.value c.unshare_tree.ensures.contents_unchanged

pub returns-in-Some-clause-tree_unshared : goal.returns-in-Some-clause-tree_unshared
returns-in-Some-clause-tree_unshared c =
    let w = c.unshare_tree.new.entry in
    on_ok_weaker c.unshare_tree.result (own-written c.args.doc.now c.args.documents.now.entries _ c.in-Some.entry.now w (c.get_mut.follows.holds w).0 c.in-Some.ensures.value) c.unshare_tree.ensures.tree_unshared

pub returns-in-None-clause-tree_unshared : goal.returns-in-None-clause-tree_unshared
returns-in-None-clause-tree_unshared c =
    subst (λ m. IsUnshared (unshared_flags m.entries) c.args.doc.now) (sym c.get_mut.follows.holds-at-none) (own-missing c.args.doc.now c.args.documents.now.entries c.in-None.ensures.value)
