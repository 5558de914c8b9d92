use Rattle.indexmap.specs.IndexMap.{spare}
use Rattle.store_core.specs.StoreViews.{SpareCapacity}
use Rattle.store_core.specs.inner.StoreMemory.{unshared_flags}
use Rattle.store_core.proofs.RestoredDocuments.{judged_by, not_given}
use Rattle.store_core.proofs.store.Store.is_free_tag.Goals as goal

pub returns-then-not-is_given : goal.returns-then-not-is_given
returns-then-not-is_given c = record {
  judged =
      let s = c.self.inside in
      let room : SpareCapacity = record { documents = spare s.documents; services = spare s.services; trees = unshared_flags s.documents.entries } in
      not_given s.documents.entries s.limits s.last room c.args.self.now c.self.view_is c.args.tag c.is_given.result c.if-not-is_given.true c.is_given.ensures.exact;
}

pub returns : goal.returns
returns c = record {
  judged =
      let s = c.self.inside in
      let room : SpareCapacity = record { documents = spare s.documents; services = spare s.services; trees = unshared_flags s.documents.entries } in
      judged_by s.documents.entries s.limits s.last room c.args.self.now c.self.view_is c.args.tag c.is_given.result c.is_unused.result c.if-not-is_given.false c.is_given.ensures.exact c.is_unused.ensures.exact;
}
