use Rattle.std.proofs.Common.{◌≡◌, ◌+◌, IsSomeAnd, Option, Ok, sym, ap, subst, ◌∙◌}
use Rattle.xml_tree.specs.Tree.{Tree}
use Rattle.usage_docs.specs.Services.{document_len}
use Rattle.edit_ops.specs.declared.change.Change.TheVariants.{RemoveDocument}
use Rattle.store_core.specs.Contents.{StoredDocument}
use Rattle.store_core.specs.ValidStates.{document_addresses}
use Rattle.store_core.specs.DocumentChanges.{find_document, stored_id}
use Rattle.store_core.specs.declared.refusal.StoreRefusal.TheVariants.{NoNumber}
use Rattle.store_core.specs.PreparedChanges.{PreparedChange, total_len}
use Rattle.store_core.proofs.PlanAnswers.{held-of, nothing-read, removal-planned, removal-unnumbered}
use Rattle.store_core.specs.inner.ChangePlans.{IsPlanResult}
use Rattle.store_core.proofs.store.Store.plan_removal.Goals as goal

pub unreachable-requires : goal.unreachable-requires
unreachable-requires c = nothing-read (find_document stored_id c.args.self.now.content.documents c.args.doc) (rw c.in_default.is at c.get.ensures.stored_version) c.requires

pub returns-in_default-next_number : goal.returns-in_default-next_number
returns-in_default-next_number c = record { plans_removal = removal-unnumbered c.args.self.now.content c.args.doc NoNumber (c.next_number.ensures.none_at_end c.in_default-next_number.is) }

pub total_without-total-requires : goal.total_without-total-requires
total_without-total-requires c = c.requires

pub returns : goal.returns
returns c = record {
  plans_removal =
      let content = c.args.self.now.content in
      let doc = c.args.doc in
      let h = held-of (find_document stored_id content.documents doc) c.in-Some.tree.now c.in-Some.tag c.in-Some.ensures.stored_version in
      let total = c.total_without-total.result in
      subst (λ (p : PreparedChange). IsPlanResult content doc RemoveDocument (Ok p)) (sym c.in_ok-prepared.ensures.ok)
      (removal-planned content doc h.0 c.in-Some.tag c.in-Some-next_number.number total c.in_ok-leaves.leaves c.requires h.1 c.in-Some-next_number.ensures.some_is_free.1 c.in-Some-next_number.ensures.some_is_free.0 h.3
      (c.in_ok-leaves.ensures.ok ∙ ap (λ (t : Tree). document_addresses doc.auid t) (sym h.2))
      (subst (λ (o : Option StoredDocument). IsSomeAnd o (λ x. total + document_len x.tree ≡ total_len content)) h.1 c.total_without-total.ensures.completes_total));
}
