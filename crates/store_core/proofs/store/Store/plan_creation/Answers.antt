use Rattle.std.proofs.Common.{IfErr, IfOk, Err, Ok, Result, sym, subst}
use Rattle.edit_ops.specs.declared.change.Change.TheVariants.{CreateDocument}
use Rattle.store_core.specs.PreparedChanges.{PreparedChange}
use Rattle.store_core.specs.declared.change_builder.Outline.{Outline}
use Rattle.store_core.specs.declared.refusal.StoreRefusal.{StoreRefusal}
use Rattle.store_core.specs.inner.ChangePlans.{IsCreationOutline, IsPlanResult}
use Rattle.store_core.proofs.PlanAnswers.{creation-planned}
use Rattle.store_core.proofs.store.Store.plan_creation.Goals as goal

pub prepare_creation-requires : goal.prepare_creation-requires
prepare_creation-requires c =
    let outlined = subst (λ (r : Result Outline StoreRefusal). IfOk r (λ o. IsCreationOutline c.args.self.now.content c.args.doc c.args.root o)) c.in-Ok.is c.in_ok-outline.ensures.ok_outline in
    record { print_of_part = outlined.print; length_exact = outlined.len }

pub returns-in_ok-prepared-in-Ok : goal.returns-in_ok-prepared-in-Ok
returns-in_ok-prepared-in-Ok c = record {
  plans_creation =
      let content = c.args.self.now.content in
      let outlined = subst (λ (r : Result Outline StoreRefusal). IfOk r (λ o. IsCreationOutline content c.args.doc c.args.root o)) c.in-Ok.is c.in_ok-outline.ensures.ok_outline in
      subst (λ (p : PreparedChange). IsPlanResult content c.args.doc (CreateDocument c.args.root) (Ok p)) (sym c.in_ok-prepared-in-Ok.ensures.ok)
      (creation-planned content c.args.doc c.args.root c.in-Ok.outline c.requires outlined);
}

pub returns-in-Err : goal.returns-in-Err
returns-in-Err c = record {
  plans_creation =
      subst (λ (r : Result Outline StoreRefusal). IfErr r (λ e. IsPlanResult c.args.self.now.content c.args.doc (CreateDocument c.args.root) (Err e))) c.in-Err.is c.in_ok-outline.ensures.err_refusal;
}
