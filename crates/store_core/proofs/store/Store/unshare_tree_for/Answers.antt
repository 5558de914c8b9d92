use Rattle.std.proofs.Common.{ap, ◌∙◌}
use Rattle.std.proofs.lemmas.Result.{on_ok_weaker}
use Rattle.store_core.specs.StoreViews.{StoreView}
use Rattle.store_core.proofs.SharedTrees.{alike-content, alike-storing}
use Rattle.store_core.proofs.store.Store.unshare_tree_for.Goals as goal

pub invariant_of-self : goal.invariant_of-self
invariant_of-self c =
    let s = c.self.inside in
    alike-storing s.documents.entries c.unshare.new.documents.entries c.unshare.ensures.contents_unchanged s.services.entries s.limits s.last s.total c.self.invariant

pub returns-then-edits_within_root-clause-contents_unchanged : goal.returns-then-edits_within_root-clause-contents_unchanged
returns-then-edits_within_root-clause-contents_unchanged c =
    let s = c.self.inside in
    alike-content s.documents.entries c.unshare.new.documents.entries c.unshare.ensures.contents_unchanged s.limits s.last ∙ ap (λ (x : StoreView). x.content) c.self.view_is

pub returns-then-edits_within_root-clause-tree_unshared : goal.returns-then-edits_within_root-clause-tree_unshared
returns-then-edits_within_root-clause-tree_unshared c = on_ok_weaker c.unshare.result (λ own within. own) c.unshare.ensures.tree_unshared
