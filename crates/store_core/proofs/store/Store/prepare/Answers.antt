use Rattle.std.proofs.Common.{Result, subst}
use Rattle.store_core.specs.PreparedChanges.{PreparedChange}
use Rattle.store_core.specs.declared.refusal.StoreRefusal.{StoreRefusal}
use Rattle.store_core.specs.inner.ChangePlans.{IsPlanResult}
use Rattle.store_core.proofs.PlanAnswers.{prepared-ok, prepared-ready, reason-of}
use Rattle.store_core.proofs.store.Store.prepare.Goals as goal

pub returns-in-Err-clause-first_refusal : goal.returns-in-Err-clause-first_refusal
returns-in-Err-clause-first_refusal c =
    let told = subst (λ (r : Result PreparedChange StoreRefusal). IsPlanResult c.args.self.now.content c.args.doc c.args.change r) c.in-Err.is c.in_ok-prepared.ensures.plans_change in
    reason-of c.args.self.now.content c.args.doc c.args.change c.in-Err.refusal told

pub returns-in_ok-reserve_memory-in-Ok-clause-prepared_change : goal.returns-in_ok-reserve_memory-in-Ok-clause-prepared_change
returns-in_ok-reserve_memory-in-Ok-clause-prepared_change c =
    let planned = subst (λ (r : Result PreparedChange StoreRefusal). IsPlanResult c.args.self.now.content c.args.doc c.args.change r) c.in-Ok.is c.in_ok-prepared.ensures.plans_change in
    prepared-ok c.args.self.now.content c.args.doc c.args.change c.in-Ok.prepared planned

pub returns-in_ok-reserve_memory-in-Ok-clause-prepared_is_ready : goal.returns-in_ok-reserve_memory-in-Ok-clause-prepared_is_ready
returns-in_ok-reserve_memory-in-Ok-clause-prepared_is_ready c =
    let planned = subst (λ (r : Result PreparedChange StoreRefusal). IsPlanResult c.args.self.now.content c.args.doc c.args.change r) c.in-Ok.is c.in_ok-prepared.ensures.plans_change in
    let room = c.in_ok-reserve_memory-in-Ok.ensures in
    prepared-ready c.args.self.now c.reserve_memory.new.self c.args.doc c.args.change c.in-Ok.prepared planned c.reserve_memory.ensures.contents_unchanged room.document_room room.address_room room.tree_unshared
