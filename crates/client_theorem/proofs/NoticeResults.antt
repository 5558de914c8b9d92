-- What a diff document that is known makes of a replica.
use Rattle.std.proofs.Common.{◌≡◌, ℕ, List, [], Result, Ok, Err, inl, inr, refl, sym, ap, ◌∙◌, subst}
use Rattle.std.proofs.lemmas.Bool.{cond-true, eq-eqb}
use Rattle.std.specs.Prelude.{◌==◌}
use Rattle.xml_tree.specs.Tree.{Tree}
use Rattle.xml_names.specs.declared.read_error.ReadError.{ReadError}
use Rattle.xml_names.specs.declared.read_error.ReadError.TheVariants as errors
use Rattle.tree_text.proofs.OneAnswer.{one_text}
use Rattle.doc_names.specs.declared.doc_id.DocId.{DocId}
use Rattle.xcap_uri.specs.PrintedNames.{is_name_of}
use Rattle.patch_rules.specs.Replay.{ReplayAnswer, ReplayFault, ReplicaContents, IsReplayOutcome, is_notice}
use Rattle.patch_laws.proofs.Outcomes.{one_outcome}
use Rattle.patch_apply.specs.ApplyAnswers as words
use Rattle.patch_apply.specs.DiffTexts.{NoticeAnswer, notice_or_fault}
use Rattle.patch_apply.specs.Views.{answer_view, apply_fault_of}
use Rattle.patch_apply.specs.declared.fault.ApplyFault.{ApplyFault}
use Rattle.patch_apply.specs.declared.fault.NoticeFault.{NoticeFault}
use Rattle.patch_apply.specs.declared.replica.Applied.{Applied}
use Rattle.reply_text.specs.ReplyHeads.{SentReply}
use Rattle.xcap_machine.proofs.Cases.{at_true}
use Rattle.xcap_machine.specs.SubscriberVersions.{UpdatesReplica}
use Rattle.client_theorem.specs.FollowFaults.{apply_fault}
use Rattle.client_theorem.specs.FollowResults.{AppliesDiff, FollowOutcome, HoldsOrNoMemory, FailsWith, TakesReply, TakesNotice}
use Rattle.client_theorem.specs.SubscriberVersions.{GetsReplica}
use Rattle.client_theorem.specs.declared.follow_fault.FollowFault.{FollowFault}
use Rattle.client_theorem.specs.declared.follow_fault.FollowFault.TheVariants as faults

module _ (id : DocId) (outcome : FollowOutcome) where
  -- what holds of the one reading holds of this one
  pub updated : (body : List ℕ) (read : Result Tree NoticeFault) (held : ReplicaContents) (answer : ReplayAnswer) (then : ReplicaContents) → UpdatesReplica id body held answer then → NoticeAnswer body read → outcome.old ≡ held
      → TakesNotice id read outcome → GetsReplica answer then outcome
  updated body read held answer then u is same takes =
      let text : is.text ≡ Ok u.notice = one_text 67 [] body is.text (Ok u.notice) is.by_grammar u.is_read in
      let found : read ≡ Ok u.notice = is.is_told ∙ ap notice_or_fault text ∙ cond-true (is_notice u.notice) (Ok u.notice) _ u.form in
      let applies : TakesNotice id (Ok u.notice) outcome = subst (λ (r : Result Tree NoticeFault). TakesNotice id r outcome) found takes in
      let stated : IsReplayOutcome (is_name_of id) u.notice outcome.old (Ok (answer, then)) = subst (λ (h : ReplicaContents). IsReplayOutcome (is_name_of id) u.notice h (Ok (answer, then))) (sym same) u.is_applied in
      let known : applies.0 ≡ Ok (answer, then) = one_outcome (is_name_of id) u.notice outcome.old applies.0 (Ok (answer, then)) u.proper applies.1 stated in
      inl (subst (λ (a : Result (ReplayAnswer × ReplicaContents) ReplayFault). AppliesDiff a outcome) known applies.2)

-- the result where a diff document is read and applied
module _ (mine : DocId) (outcome : FollowOutcome) where
  pub taken : (reply : SentReply) (notice : Tree) (applied : Applied) → outcome.result ≡ Ok applied → reply.status ≡ 200 → NoticeAnswer reply.body (Ok notice)
      → words.IsApplyAnswer (is_name_of mine) notice outcome.old (Ok applied) outcome.new → HoldsOrNoMemory (TakesReply mine reply) outcome
  taken reply notice applied is status read applies =
      inl (at_true (reply.status == 200) _ _ (eq-eqb reply.status 200 status) (Ok notice, read, (Ok (answer_view applied, outcome.new), applies, (applied, is, refl, refl))))

  refuses_all : (notice : Tree) (error : ReadError ApplyFault) → outcome.result ≡ Err (apply_fault error) → words.IsApplyAnswer (is_name_of mine) notice outcome.old (Err error) outcome.new
      → HoldsOrNoMemory (TakesNotice mine (Ok notice)) outcome
  refuses_all notice (errors.Fault fault) is applies =
      let refused : FailsWith (faults.Apply (apply_fault_of applies.0)) outcome = (is ∙ ap (λ (f : ApplyFault). let r : Result Applied FollowFault = Err (faults.Apply f) in r) applies.2, applies.3) in
      inl (Err applies.0, applies.1, refused)
  refuses_all notice errors.NoMemory is applies = inr (is, applies)

  pub refused : (reply : SentReply) (notice : Tree) (error : ReadError ApplyFault) → outcome.result ≡ Err (apply_fault error) → reply.status ≡ 200 → NoticeAnswer reply.body (Ok notice)
      → words.IsApplyAnswer (is_name_of mine) notice outcome.old (Err error) outcome.new → HoldsOrNoMemory (TakesReply mine reply) outcome
  refused reply notice error is status read applies = by (refuses_all notice error is applies)
    where
      by : HoldsOrNoMemory (TakesNotice mine (Ok notice)) outcome → HoldsOrNoMemory (TakesReply mine reply) outcome
      by (inl so) = inl (at_true (reply.status == 200) _ _ (eq-eqb reply.status 200 status) (Ok notice, read, so))
      by (inr none) = inr none
