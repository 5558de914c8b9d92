use Rattle.std.proofs.Common.{sym}
use Rattle.indexmap.specs.IndexMap.{spare}
use Rattle.store_core.specs.StoreViews.{SpareCapacity}
use Rattle.store_core.specs.inner.StoreMemory.{unshared_flags}
use Rattle.store_core.proofs.ChangeReasons.{held-as}
use Rattle.store_core.proofs.ChangeSteps.{no-entry, sound-entry}
use Rattle.store_core.proofs.store.Store.stored_entry.Goals as goal

pub unreachable-requires : goal.unreachable-requires
unreachable-requires c =
    let s = c.self.inside in
    let room : SpareCapacity = record { documents = spare s.documents; services = spare s.services; trees = unshared_flags s.documents.entries } in
    no-entry s.documents.entries s.limits s.last room c.args.self.now c.args.doc.now c.self.view_is (rw c.in-None.is at c.find_entry.ensures.exact) c.requires

pub returns-clause-entry_held : goal.returns-clause-entry_held
returns-clause-entry_held c =
    let s = c.self.inside in
    let room : SpareCapacity = record { documents = spare s.documents; services = spare s.services; trees = unshared_flags s.documents.entries } in
    held-as s.documents.entries s.services.entries s.limits s.last s.total room c.args.self.now c.args.doc.now c.self.view_is c.self.invariant c.in-Some.entry.now c.in-Some.ensures.exact

pub returns-clause-tree_is_sound : goal.returns-clause-tree_is_sound
returns-clause-tree_is_sound c =
    let s = c.self.inside in
    sound-entry s.documents.entries s.services.entries s.limits s.last s.total c.args.doc.now c.in-Some.entry.now c.self.invariant (sym c.in-Some.ensures.exact)
