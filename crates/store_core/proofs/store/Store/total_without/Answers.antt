use Rattle.std.proofs.Common.{arith}
use Rattle.indexmap.specs.IndexMap.{spare}
use Rattle.store_core.specs.StoreViews.{SpareCapacity}
use Rattle.store_core.specs.inner.StoreMemory.{unshared_flags}
use Rattle.store_core.proofs.ChangeReasons.{no-longer, others-are, total-small, whole-is}
use Rattle.store_core.proofs.ChangeSteps.{no-entry}
use Rattle.store_core.proofs.store.Store.total_without.Goals as goal

pub unreachable-requires : goal.unreachable-requires
unreachable-requires c =
    let s = c.self.inside in
    let room : SpareCapacity = record { documents = spare s.documents; services = spare s.services; trees = unshared_flags s.documents.entries } in
    no-entry s.documents.entries s.limits s.last room c.args.self.now c.args.doc.now c.self.view_is (rw c.in_default.is at c.find_entry.ensures.exact) c.requires

pub overflow_sub-result : goal.overflow_sub-result
overflow_sub-result c =
    let s = c.self.inside in
    let room : SpareCapacity = record { documents = spare s.documents; services = spare s.services; trees = unshared_flags s.documents.entries } in
    no-longer s.documents.entries s.services.entries s.limits s.last s.total room c.args.self.now c.args.doc.now c.self.view_is c.self.invariant c.in-Some.entry.now c.in-Some.ensures.exact

pub returns-clause-exact : goal.returns-clause-exact
returns-clause-exact c =
    let s = c.self.inside in
    let room : SpareCapacity = record { documents = spare s.documents; services = spare s.services; trees = unshared_flags s.documents.entries } in
    others-are s.documents.entries s.services.entries s.limits s.last s.total room c.args.self.now c.args.doc.now c.self.view_is c.self.invariant c.in-Some.entry.now c.in-Some.ensures.exact

pub returns-clause-is_small : goal.returns-clause-is_small
returns-clause-is_small c = let s = c.self.inside in omega (arith, total-small s.documents.entries s.services.entries s.limits s.last s.total c.self.invariant)

pub returns-clause-completes_total : goal.returns-clause-completes_total
returns-clause-completes_total c =
    let s = c.self.inside in
    let room : SpareCapacity = record { documents = spare s.documents; services = spare s.services; trees = unshared_flags s.documents.entries } in
    whole-is s.documents.entries s.services.entries s.limits s.last s.total room c.args.self.now c.args.doc.now c.self.view_is c.self.invariant c.in-Some.entry.now c.in-Some.ensures.exact
