use Rattle.std.proofs.Common.{◌≡◌, Bool, true, List, sym, ap, subst, ◌∙◌}
use Rattle.std.proofs.lemmas.Result.{on_ok_weaker}
use Rattle.doc_names.specs.declared.doc_id.DocId.{DocId}
use Rattle.store_core.specs.TreeChanges.{edits_within_root}
use Rattle.store_core.specs.PreparedChanges.{PreparedChange}
use Rattle.store_core.specs.inner.UnsharedTrees.{IsUnshared}
use Rattle.store_core.proofs.store.Store.reserve_memory.Goals as goal

pub returns-clause-tree_unshared : goal.returns-clause-tree_unshared
returns-clause-tree_unshared c =
    let trees = c.reserve.new.self.room.trees in
    let doc = c.prepared.inside.doc in
    on_ok_weaker c.reserve.result (λ room.
    subst (λ (p : PreparedChange). edits_within_root p.note.change ≡ true → IsUnshared trees p.doc) c.prepared.view_is
    (λ within. subst (λ (ts : List (DocId × Bool)). IsUnshared ts doc) (sym c.reserve.ensures.same_trees) (c.in_ok-unshare_tree_for.ensures.tree_unshared (ap edits_within_root c.change.ensures.exact ∙ within))))
    c.reserve.ensures.keeps_spare
