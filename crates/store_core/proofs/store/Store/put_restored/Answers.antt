use Rattle.indexmap.specs.IndexMap.{spare}
use Rattle.store_core.specs.PreparedChanges.{PreparedChange}
use Rattle.store_core.specs.StoreViews.{SpareCapacity}
use Rattle.store_core.specs.inner.StoreMemory.{unshared_flags}
use Rattle.store_core.proofs.RestoredDocuments.{held_then, holds_restored, may_put_here, plan_here, still_consistent}
use Rattle.store_core.proofs.store.Store.put_restored.Goals as goal

pub apply_to-created-requires-clause-fits : goal.apply_to-created-requires-clause-fits
apply_to-created-requires-clause-fits c =
    let s = c.self.inside in
    let p = c.prepared.inside in
    let room : SpareCapacity = record { documents = spare s.documents; services = spare s.services; trees = unshared_flags s.documents.entries } in
    let seen : PreparedChange = record { doc = p.doc; note = p.note; step = p.step; leaves = p.leaves; enters = p.enters; total = p.total } in
    may_put_here s.documents.entries s.services.entries s.limits s.last s.total room c.args.self.now seen c.args.prepared c.self.view_is c.prepared.view_is c.self.invariant c.requires.planned

pub invariant_of-self : goal.invariant_of-self
invariant_of-self c =
    let s = c.self.inside in
    let p = c.prepared.inside in
    let room : SpareCapacity = record { documents = spare s.documents; services = spare s.services; trees = unshared_flags s.documents.entries } in
    let seen : PreparedChange = record { doc = p.doc; note = p.note; step = p.step; leaves = p.leaves; enters = p.enters; total = p.total } in
    let plan = plan_here s.documents.entries s.services.entries s.limits s.last s.total room c.args.self.now seen c.args.prepared c.self.view_is c.prepared.view_is c.self.invariant c.requires.planned in
    still_consistent s.documents.entries s.services.entries s.limits s.last s.total seen c.self.invariant plan
    c.release_addresses.new.registry.entries c.register_addresses.new.registry.entries c.apply_to-created.new.documents.entries c.apply_to-created.result c.next-number.result c.as_slice.result.now c.into_vec.result.items c.apply_to-created.ensures.takes_step c.as_slice.ensures.exact c.into_vec.ensures.same_items
    c.release_addresses.ensures.frees_addresses c.register_addresses.ensures.registers_these

pub returns : goal.returns
returns c = record {
  restored =
      let s = c.self.inside in
      let p = c.prepared.inside in
      let room : SpareCapacity = record { documents = spare s.documents; services = spare s.services; trees = unshared_flags s.documents.entries } in
      let seen : PreparedChange = record { doc = p.doc; note = p.note; step = p.step; leaves = p.leaves; enters = p.enters; total = p.total } in
      let plan = plan_here s.documents.entries s.services.entries s.limits s.last s.total room c.args.self.now seen c.args.prepared c.self.view_is c.prepared.view_is c.self.invariant c.requires.planned in
      held_then s.documents.entries s.services.entries s.limits s.last s.total room c.args.self.now seen c.args.prepared c.self.view_is c.prepared.view_is c.self.invariant c.requires.planned _
      (holds_restored s.documents.entries s.services.entries s.limits s.last s.total seen c.self.invariant plan
      c.release_addresses.new.registry.entries c.register_addresses.new.registry.entries c.apply_to-created.new.documents.entries c.apply_to-created.result c.next-number.result c.as_slice.result.now c.into_vec.result.items c.apply_to-created.ensures.takes_step c.as_slice.ensures.exact c.into_vec.ensures.same_items
      c.release_addresses.ensures.frees_addresses c.register_addresses.ensures.registers_these);
}
