use Rattle.std.proofs.Common.{ℕ, ◌+◌, List, Ok, drop, map, refl, ap, ◌∙◌}
use Rattle.std.proofs.lemmas.Result.{err_from_is_err_and}
use Rattle.xml_tree.specs.Tree.{Tree}
use Rattle.patch_rules.specs.Replay.{operation_count}
use Rattle.patch_rules.specs.readers.Replay.{outcome_of_documents}
use Rattle.patch_apply.specs.Views.{replica_view}
use Rattle.patch_apply.specs.inner.OutcomeViews.{contents_view, outcome_view}
use Rattle.patch_apply.specs.declared.document_outcomes.DocumentOutcome.{DocumentOutcome}
use Rattle.patch_apply.proofs.OperationOrder.{item_now, so_many, taken_next, turn_fault}
use Rattle.patch_apply.proofs.apply_diffs.outcome_of_documents.Goals as goal

pub loop-document-init : goal.loop-document-init
loop-document-init c = record { low = c.requires.height_bounded; same = (0, refl, refl) }

pub returns-in_err-made-clause-as_specified : goal.returns-in_err-made-clause-as_specified
returns-in_err-made-clause-as_specified c =
    let p = err_from_is_err_and c.from_residual.result c.from_residual.ensures.1 in
    let x = c.loop-document.invariant.same in
    let scope = c.args.scope.now in let held = replica_view c.loop-document.held in let new = replica_view c.apply_document.new.held in
    let same = x.2
    ∙ ap (λ (ds : List Tree). outcome_of_documents x.0 scope ds held)
    (item_now c.args.documents.now c.loop-document.document-index c.document-item.result c.loop-document-test.true c.document-item.is) in
    rw (p.1, p.2) (turn_fault (λ (y : DocumentOutcome × ℕ). outcome_view y.0 new) (λ (t : DocumentOutcome). contents_view t new) x.0 scope c.document-item.result.now (map (λ y. y.now) (drop (c.loop-document.document-index + 1) c.args.documents.now)) held _ c.in_err-made.field-0.0 same (c.in_err-made.ensures.as_specified x.0 x.1))

pub loop-document-preserved : goal.loop-document-preserved
loop-document-preserved c =
    let x = c.loop-document.invariant.same in
    let scope = c.args.scope.now in let d = c.document-item.result.now in let held = replica_view c.loop-document.held in let new = replica_view c.apply_document.new.held in
    record {
      low = c.in_ok-made.ensures.within_levels;
      same = (
        x.0 + operation_count scope d,
        c.saturating_add-before.ensures ∙ so_many c.loop-document.before c.in_ok-made.count x.0 (operation_count scope d) x.1 c.in_ok-made.ensures.counts_operations,
        x.2
            ∙ ap (λ (ds : List Tree). outcome_of_documents x.0 scope ds held)
            (item_now c.args.documents.now c.loop-document.document-index c.document-item.result c.loop-document-test.true c.document-item.is)
            ∙ taken_next x.0 scope d (map (λ y. y.now) (drop (c.loop-document.document-index + 1) c.args.documents.now)) held new (c.in_ok-made.ensures.as_specified x.0 x.1 ∙ ap (λ (t : DocumentOutcome). Ok (outcome_view t new)) c.in-Updated.is),
      );
    }
