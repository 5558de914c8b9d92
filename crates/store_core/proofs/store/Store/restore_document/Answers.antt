use Rattle.std.proofs.Common.{◌≡◌, refl}
use Rattle.store_core.specs.PreparedChanges.{PreparedChange}
use Rattle.store_core.specs.State.{new_document}
use Rattle.store_core.specs.inner.RestoredEntries.{IsPlannedRestore, restored_document}
use Rattle.store_core.proofs.RestoredDocuments.{if_false, if_none, if_some, if_true, not_free, restored_so}
use Rattle.store_core.proofs.store.Store.restore_document.Goals as goal

pub returns-then-not-is_free_tag-clause-restored : goal.returns-then-not-is_free_tag-clause-restored
returns-then-not-is_free_tag-clause-restored c =
    (refl, not_free c.args.self.now.content c.args.doc c.args.tag c.args.root (if_false _ c.is_free_tag.result c.if-not-is_free_tag.true c.is_free_tag.ensures.judged))

pub plan_restored-requires-clause-free : goal.plan_restored-requires-clause-free
plan_restored-requires-clause-free c = if_true _ c.is_free_tag.result c.if-not-is_free_tag.false c.is_free_tag.ensures.judged

pub returns-in-None-clause-restored : goal.returns-in-None-clause-restored
returns-in-None-clause-restored c =
    (refl, if_none (λ (p : PreparedChange). IsPlannedRestore c.args.self.now.content p × (restored_document p ≡ new_document c.args.doc c.args.tag c.args.root)) _ c.in-None.is c.in_ok-plan_restored.ensures.planned)

pub put_planned-requires : goal.put_planned-requires
put_planned-requires c = record {
  planned = (if_some _ (λ (p : PreparedChange). IsPlannedRestore c.args.self.now.content p × (restored_document p ≡ new_document c.args.doc c.args.tag c.args.root)) _ c.in-Some.prepared c.in-Some.is c.in_ok-plan_restored.ensures.planned).0;
}

pub returns-in_ok-put_planned-in-Some-clause-restored : goal.returns-in_ok-put_planned-in-Some-clause-restored
returns-in_ok-put_planned-in-Some-clause-restored c =
    let plan = if_some _ (λ (p : PreparedChange). IsPlannedRestore c.args.self.now.content p × (restored_document p ≡ new_document c.args.doc c.args.tag c.args.root)) _ c.in-Some.prepared c.in-Some.is c.in_ok-plan_restored.ensures.planned in
    restored_so c.args.self.now.content c.put_planned.new.self.content (new_document c.args.doc c.args.tag c.args.root) c.in-Some.prepared plan.0 plan.1 c.in_ok-put_planned-in-Some.ensures.restored
