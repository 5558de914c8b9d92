-- The answer of a decision.
use Rattle.std.proofs.Common.{◌≡◌, Bool, Some, Result, Ok, Err, IfErr, IfOk, sym, ap, subst, ◌∙◌}
use Rattle.doc_names.specs.declared.doc_id.DocId.{DocId}
use Rattle.edit_ops.specs.declared.change.Change.{Change}
use Rattle.edit_ops.specs.Notes.{Note}
use Rattle.reply_text.specs.ReplyHeads.{SentReply}
use Rattle.store_core.specs.DocumentChanges.{change_result, contents_after}
use Rattle.store_core.specs.PreparedChanges.{IsReady, PreparedChange}
use Rattle.store_core.specs.StoreViews.{StoreView}
use Rattle.store_core.specs.declared.refusal.StoreRefusal.{StoreRefusal}
use Rattle.store_core.specs.Contents.{StoreContents as Content}
use Rattle.xcap_machine.specs.Answers.{Answer, reply_only}
use Rattle.xcap_machine.specs.DocumentWrites.{change_answer, refusal_reply}
use Rattle.xcap_machine.proofs.ChangeAnswers.{as_the_store, told_by_store}
use Rattle.xcap_put.specs.Decisions.{DecidesAnswer, answer_of}
use Rattle.xcap_put.specs.declared.decision.Decision.{Decision}
use Rattle.xcap_put.specs.declared.decision.Decision.TheVariants.{Stays, Changes}

module _ (Is : Answer → Type 0) (s : StoreView) where
  -- a reply alone
  pub stays : (reply : SentReply) → Is (reply_only reply) → DecidesAnswer Is s (Stays reply)
  stays reply is = record { answers = is; ready = tt }

  -- a decision of one kind is one of another
  pub decides_so : (Will : Answer → Type 0) → ((a : Answer) → Is a → Will a) → (d : Decision) → DecidesAnswer Is s d → DecidesAnswer Will s d
  decides_so Will so d decides = record { answers = so (answer_of d) decides.answers; ready = decides.ready }

  -- the same for a decision that is made unless memory runs out
  pub all_so : {E : Type 0} (Will : Answer → Type 0) → ((a : Answer) → Is a → Will a) → (r : Result Decision E) → IfOk r (λ d. DecidesAnswer Is s d) → IfOk r (λ d. DecidesAnswer Will s d)
  all_so Will so (Ok d) decides = decides_so Will so d decides
  all_so Will so (Err e) decides = tt

module _ (c : Content) (id : DocId) (change : Change) (closes : Bool) (reply_to : Note → SentReply) (s : StoreView) where
  abbrev Is : Answer → Type 0
  Is a = a ≡ change_answer c id change closes reply_to

  -- a change that the store prepared has all its memory
  pub makes : (reply : SentReply) (r : Result PreparedChange StoreRefusal) (p : PreparedChange) → r ≡ Ok p
      → IfOk r (λ q. (q.doc ≡ id) × (change_result c id change ≡ Ok (q.note, contents_after c id change)) × (q.note.change ≡ change)) → IfOk r (λ q. IsReady s q) → reply ≡ reply_to p.note → DecidesAnswer Is s (Changes reply p)
  makes reply r p is prepared ready told =
      let of_p = subst (λ (x : Result PreparedChange StoreRefusal). IfOk x (λ q. (q.doc ≡ id) × (change_result c id change ≡ Ok (q.note, contents_after c id change)) × (q.note.change ≡ change))) is prepared in
      let with_reply : SentReply → Answer = λ r. record { reply = r; made = Some (p.doc, p.note) } in
      let with_name : DocId → Answer = λ d. record { reply = reply_to p.note; made = Some (d, p.note) } in
      record {
        answers = ap with_reply told ∙ ap with_name of_p.0 ∙ sym (as_the_store c id change closes reply_to ∙ ap (λ (x : Result (Note × Content) StoreRefusal). told_by_store id closes reply_to x) of_p.1);
        ready = subst (λ (x : Result PreparedChange StoreRefusal). IfOk x (λ q. IsReady s q)) is ready;
      }

  -- a change that is refused
  pub refuses : (reply : SentReply) (r : Result PreparedChange StoreRefusal) (refusal : StoreRefusal) → r ≡ Err refusal → IfErr r (λ e. change_result c id change ≡ Err e) → reply ≡ refusal_reply refusal closes → DecidesAnswer Is s (Stays reply)
  refuses reply r refusal is against told =
      let e = subst (λ (x : Result PreparedChange StoreRefusal). IfErr x (λ e. change_result c id change ≡ Err e)) is against in
      stays Is s reply (ap reply_only told ∙ sym (as_the_store c id change closes reply_to ∙ ap (λ (x : Result (Note × Content) StoreRefusal). told_by_store id closes reply_to x) e))
