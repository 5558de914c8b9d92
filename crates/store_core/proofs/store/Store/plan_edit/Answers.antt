use Rattle.std.proofs.Common.{Err, IfErr, IfOk, Result, subst}
use Rattle.xml_tree.specs.Tree.{Tree}
use Rattle.edit_ops.specs.Changes.{FitsTree}
use Rattle.store_core.specs.declared.change_builder.Outline.{Outline}
use Rattle.store_core.specs.declared.refusal.StoreRefusal.{StoreRefusal}
use Rattle.store_core.specs.inner.ChangePlans.{IsEditOutline, IsPlanResult}
use Rattle.store_core.proofs.ChangePremises.{asked, asks-held}
use Rattle.store_core.proofs.PlanAnswers.{edit-planned}
use Rattle.store_core.proofs.store.Store.plan_edit.Goals as goal

pub stored_entry-entry-requires : goal.stored_entry-entry-requires
stored_entry-entry-requires c = asks-held c.args.self.now.content c.args.doc c.args.change c.requires.edits_document c.requires.asks_change

pub prepare_edit-requires : goal.prepare_edit-requires
prepare_edit-requires c =
    let content = c.args.self.now.content in
    let h = c.stored_entry-entry.ensures.entry_held in
    let outlined = subst (λ (r : Result Outline StoreRefusal). IfOk r (λ o. IsEditOutline content c.args.doc c.stored_entry-entry.result.now.tree.root c.args.change o)) c.in-Ok.is c.in_ok-outline.ensures.ok_outline in
    record {
      fits = subst (λ (t : Tree). FitsTree t c.args.change) h.2 (asked content c.args.doc c.args.change h.0 c.requires.edits_document h.1 c.requires.asks_change).0;
      length_of_part = outlined.put;
      print_of_part = outlined.print;
    }

pub returns-in_ok-prepared-in-Ok : goal.returns-in_ok-prepared-in-Ok
returns-in_ok-prepared-in-Ok c = record {
  plans_edit =
      let content = c.args.self.now.content in
      let v = c.stored_entry-entry.result.now in
      let outlined = subst (λ (r : Result Outline StoreRefusal). IfOk r (λ o. IsEditOutline content c.args.doc v.tree.root c.args.change o)) c.in-Ok.is c.in_ok-outline.ensures.ok_outline in
      edit-planned content c.args.doc c.args.change v c.in-Ok.outline c.in_ok-prepared-in-Ok.prepared c.requires.asks_change c.requires.edits_document c.stored_entry-entry.ensures.entry_held outlined c.in_ok-prepared-in-Ok.ensures.prepared_edit;
}

pub returns-in-Err : goal.returns-in-Err
returns-in-Err c = record {
  plans_edit = subst (λ (r : Result Outline StoreRefusal). IfErr r (λ e. IsPlanResult c.args.self.now.content c.args.doc c.args.change (Err e))) c.in-Err.is c.in_ok-outline.ensures.err_refusal;
}
