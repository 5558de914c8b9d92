use Rattle.std.proofs.Common.{ℕ, List, [], ◌∷◌, ◌++◌, ap, ◌∙◌}
use Rattle.std.proofs.lemmas.Result.{err_from_is_err_and}
use Rattle.xml_names.specs.declared.names.Decl.{Decl}
use Rattle.patch_rules.specs.readers.Replay.{outcome_by_previous_tag}
use Rattle.patch_parse.specs.Operations.{operations_in_scope}
use Rattle.patch_apply.specs.Views.{replica_view}
use Rattle.patch_apply.specs.inner.OutcomeViews.{outcome_view}
use Rattle.patch_apply.specs.declared.document_outcomes.DocumentOutcome.{DocumentOutcome}
use Rattle.patch_apply.proofs.OperationOrder.{error_alike}
use Rattle.patch_apply.proofs.apply_diffs.apply_document.Goals as goal

pub returns-in_err-turn-clause-as_specified : goal.returns-in_err-turn-clause-as_specified
returns-in_err-turn-clause-as_specified c =
    let p = err_from_is_err_and c.from_residual-in_err-turn.result c.from_residual-in_err-turn.ensures.1 in
    let d = c.args.document.now in
    let here = c.with-here.ensures.exact ∙ ap (λ (ds : List Decl). c.args.scope.now ++ ds ∷ []) c.decls.ensures.exact in
    let told = c.in_ok-told.ensures in
    let new = replica_view c.document_outcome.new.held in
    λ n e.
    rw (p.1, p.2) (
    error_alike (λ (t : DocumentOutcome). outcome_view t new) (λ (x : DocumentOutcome × ℕ). outcome_view x.0 new) _ _ c.in_err-turn.field-0.0
    (λ i. outcome_by_previous_tag n (here i) ((told.same_operations ∙ (λ j. operations_in_scope (here j) d)) i) (told.tag_before_diff i) (told.tag_after_diff i) (replica_view c.args.held.now))
    (c.in_err-turn.ensures.as_specified n e)
    )
