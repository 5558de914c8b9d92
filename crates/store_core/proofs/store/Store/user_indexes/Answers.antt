use Rattle.std.proofs.Common.{◌≡◌, ◌≤◌, All, IfOk, map, rules}
use Rattle.std.proofs.lemmas.Result.{IfOk-weaker}
use Rattle.std.specs.Map.{values_of}
use Rattle.indexmap.specs.IndexMap.{spare}
use Rattle.xml_tree.specs.Tree.{height}
use Rattle.store_core.specs.Indexes.{AreIndexTrees}
use Rattle.store_core.specs.StoreViews.{SpareCapacity}
use Rattle.store_core.specs.inner.StoreMemory.{unshared_flags}
use Rattle.store_core.proofs.IndexedTrees.{trees-index_entries, trees-low}
use Rattle.store_core.proofs.store.Store.user_indexes.Goals as goal

pub returns-clause-index_trees : goal.returns-clause-index_trees
returns-clause-index_trees c =
    let s = c.self.inside in
    let by_user = c.in_ok-trees.trees.entries in
    let room : SpareCapacity = record { documents = spare s.documents; services = spare s.services; trees = unshared_flags s.documents.entries } in
    let shown : IfOk c.collect.result (λ made. made.items ≡ values_of by_user) = search rules in
    IfOk-weaker c.collect.result (λ made. made.items ≡ values_of by_user) (λ made. AreIndexTrees c.args.self.now.content (map (λ e. e.now) made.items))
    (λ made h. trees-index_entries s.documents.entries s.services.entries s.limits s.last s.total c.self.invariant by_user c.in_ok-trees.ensures.listed_trees made.items h room c.args.self.now c.self.view_is) shown

pub returns-clause-within_levels : goal.returns-clause-within_levels
returns-clause-within_levels c =
    let s = c.self.inside in
    let by_user = c.in_ok-trees.trees.entries in
    let shown : IfOk c.collect.result (λ made. made.items ≡ values_of by_user) = search rules in
    IfOk-weaker c.collect.result (λ made. made.items ≡ values_of by_user) (λ made. All (λ e. height e.now ≤ 64) made.items)
    (λ made h. trees-low s.documents.entries s.services.entries s.limits s.last s.total c.self.invariant by_user c.in_ok-trees.ensures.listed_trees made.items h) shown
