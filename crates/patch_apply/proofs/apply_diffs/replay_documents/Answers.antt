use Rattle.std.proofs.Common.{◌≡◌, ◌<◌, ℕ, zero, suc, eqb, true, false, Ok, List, [], ◌∷◌, ◌++◌, length, sym, subst, ap, ◌∙◌, arith}
use Rattle.xml_tree.specs.Tree.{Tree}
use Rattle.patch_rules.specs.Replay.{ReplayAnswer, documents, are_all_mine}
use Rattle.patch_rules.specs.readers.Replay.{outcome_of_documents}
use Rattle.xcap_uri.specs.PrintedNames.{is_name_of}
use Rattle.patch_apply.specs.Views.{replica_view}
use Rattle.patch_apply.specs.inner.OutcomeViews.{contents_view}
use Rattle.patch_apply.specs.declared.document_outcomes.DocumentOutcome.{DocumentOutcome}
use Rattle.patch_apply.proofs.WholeNotices.{done_with}
use Rattle.patch_apply.proofs.OperationOrder.{some_item}
use Rattle.patch_apply.proofs.apply_diffs.replay_documents.Goals as goal

some_if : (n : ℕ) → eqb n 0 ≡ false → 0 < n
some_if zero e = absurd (cc)
some_if (suc n) e = omega arith

pub returns-in-Updated-clause-as_specified : goal.returns-in-Updated-clause-as_specified
returns-in-Updated-clause-as_specified c =
    let notice = c.args.notice.now in
    let is_of_document = is_name_of c.args.replica.now.doc in
    let docs = c.requires.diff_documents in
    let mine : are_all_mine is_of_document (documents notice) ≡ true = ap (are_all_mine is_of_document) (sym docs) ∙ sym c.in_ok-mine.ensures.ok ∙ c.if-not-mine.false in
    let some = subst (λ (l : List Tree). 0 < length l) docs (some_item c.args.documents.now (some_if (length c.args.documents.now) (sym c.is_empty.ensures ∙ c.if-is_empty.false))) in
    let scope = c.with-scope.ensures.exact ∙ (λ i. c.empty.ensures.declares_nothing i ++ c.decls.ensures.exact i ∷ []) in
    let held = c.in_ok-held.ensures.equal_copy in
    let new = replica_view c.outcome_of_documents.new.held in
    let document_outcome = (λ i. outcome_of_documents 0 (sym scope i) (sym docs i) (replica_view (sym held i))) ∙ c.in_ok-outcome.ensures.as_specified ∙ ap (λ (o : DocumentOutcome). Ok (contents_view o new)) c.in-Updated.is in
    done_with is_of_document notice (replica_view c.args.replica.now.held) mine new some document_outcome ∙ ap (λ (a : ReplayAnswer). Ok (a, new)) (sym c.applied_outcome-answer.ensures.patched_or_removed)
