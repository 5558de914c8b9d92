use Rattle.std.proofs.Common.{IfErr, IfOk, Err, Result, sym, ap, subst, ◌∙◌}
use Rattle.edit_ops.specs.declared.change.Change.TheVariants.{CreateDocument}
use Rattle.store_core.specs.declared.change_builder.Outline.{Outline}
use Rattle.store_core.specs.declared.refusal.StoreRefusal.{StoreRefusal}
use Rattle.store_core.specs.inner.ChangePlans.{IsCreationOutline, IsPlanResult}
use Rattle.store_core.specs.inner.Prints.{IsPrintOf}
use Rattle.store_core.proofs.RestoredDocuments.{plans_so, refused}
use Rattle.store_core.proofs.store.Store.plan_restored.Goals as goal

pub prepare_creation-requires : goal.prepare_creation-requires
prepare_creation-requires c =
    let outlined = subst (λ (r : Result Outline StoreRefusal). IfOk r (λ o. IsCreationOutline c.args.self.now.content c.args.doc c.args.root o)) c.in-Ok.is c.in_ok-outline.ensures.ok_outline in
    let same = c.with_number-numbered.ensures.exact in
    record {
      print_of_part = subst (λ (o : Outline). IsPrintOf c.args.root o.put.print) (sym same) outlined.print;
      length_exact = ap (λ (o : Outline). o.len) same ∙ outlined.len;
    }

pub returns-in_ok-prepared-in-Ok : goal.returns-in_ok-prepared-in-Ok
returns-in_ok-prepared-in-Ok c = record {
  planned =
      let content = c.args.self.now.content in
      let outlined = subst (λ (r : Result Outline StoreRefusal). IfOk r (λ o. IsCreationOutline content c.args.doc c.args.root o)) c.in-Ok.is c.in_ok-outline.ensures.ok_outline in
      plans_so content c.args.doc c.args.tag c.args.root c.requires.may_be c.requires.no_records c.requires.free c.in-Ok.outline outlined c.in_ok-prepared-in-Ok.prepared c.with_number-numbered.result c.with_number-numbered.ensures.exact c.in_ok-prepared-in-Ok.ensures.ok;
}

pub returns-in-Err : goal.returns-in-Err
returns-in-Err c = record {
  planned =
      let content = c.args.self.now.content in
      refused content c.args.doc c.args.tag c.args.root c.requires.may_be c.requires.numbers_left c.in-Err._refusal
      (subst (λ (r : Result Outline StoreRefusal). IfErr r (λ e. IsPlanResult content c.args.doc (CreateDocument c.args.root) (Err e))) c.in-Err.is c.in_ok-outline.ensures.err_refusal);
}
