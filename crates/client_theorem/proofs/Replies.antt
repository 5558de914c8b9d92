-- The machine's answer to a request for a feed: what it says of the document, and that it changes
-- nothing.
use Rattle.std.proofs.Common.{◌≡◌, ◌≢◌, ℕ, true, false, List, Option, None, option_map, Result, Ok, Err, IfOk, OnErr, refl, sym, ap, ◌∙◌, subst}
use Rattle.doc_names.specs.declared.doc_id.DocId.{DocId}
use Rattle.edit_ops.specs.declared.edit.Edit.{Edit}
use Rattle.xcap_uri.specs.declared.fault.UriFault.{UriFault}
use Rattle.xcap_uri.specs.declared.target.Mode.{Mode}
use Rattle.xcap_uri.specs.declared.target.Target.{Target}
use Rattle.xcap_uri.specs.declared.target.Target.TheVariants.{Feed}
use Rattle.xcap_uri.proofs.TargetAnswers.{one_target}
use Rattle.reply_text.specs.ReplyHeads.{SentReply, plain_reply}
use Rattle.http_wire.specs.declared.request.Request.{Request}
use Rattle.http_serve.specs.declared.machine.MachineReply.{MachineReply}
use Rattle.request_checks.specs.Methods.{method_of}
use Rattle.request_checks.specs.Rights.{is_allowed}
use Rattle.request_checks.specs.declared.method.Method.{Method}
use Rattle.request_checks.specs.declared.method.Method.TheVariants.{Get}
use Rattle.store_core.specs.Contents.{Represents, StoreContents, contents_of}
use Rattle.store_core.specs.ValidStates.{IsValidState}
use Rattle.store_core.specs.Since.{Gone, ChangesSince, ReportedChanges, Unknown, since}
use Rattle.store_core.specs.State.{State}
use Rattle.xcap_machine.proofs.Cases.{either}
use Rattle.xcap_machine.specs.Answers.{Answer, MadeChange, reply_only}
use Rattle.xcap_machine.specs.Feeds.{changes_since_answer}
use Rattle.xcap_machine.specs.Machine.{ValidStep, Step, state_after_answer, answer_with_edit, change_from_edit}
use Rattle.xcap_machine.specs.Requests.{AnswersByTarget, IsAnswer}
use Rattle.xcap_machine.specs.inner.AnswerCases.{AnswersByMethod, AnswersByUser}
use Rattle.xcap_machine.specs.inner.AnswerCases.{IsAnswerByTarget}
use Rattle.xcap_machine.specs.inner.RecordValues.{feed_query, read_request, server_state}
use Rattle.client_theorem.specs.FeedRequests.{AsksForFeed}

module _ (root : List ℕ) (c : StoreContents) (mode : Mode) (n : ℕ) (id : DocId) (request : Request) (asks : AsksForFeed root mode n id request) where
  -- it is the answer by the result of the since-query
  answered : (a : Answer) → IsAnswer root c request a → a ≡ changes_since_answer root (feed_query mode n id) (since c id n) (read_request Get request)
  answered a is =
      let same : is.0 ≡ Ok (Feed mode n id) = one_target root request.target is.0 (Ok (Feed mode n id)) is.1 asks.target in
      let here : AnswersByTarget (server_state root c) (Feed mode n id) (method_of request.method) request a = subst (λ (read : Result Target UriFault). IsAnswerByTarget root c read request a) same is.2 in
      let reads : AnswersByUser (server_state root c) (Feed mode n id) Get request a = subst (λ (x : Method). AnswersByTarget (server_state root c) (Feed mode n id) x request a) asks.method here in
      either (is_allowed false id.auid id.home request.fields) (AnswersByMethod (server_state root c) (Feed mode n id) Get request a) (a ≡ reply_only (plain_reply 403 request.closes))
      (λ _ so. so) (λ no so. let never : true ≡ false = sym asks.allowed ∙ no in absurd cc) reads

  -- nothing is changed
  pub changes_nothing : (a : Answer) → IsAnswer root c request a → a.made ≡ None
  changes_nothing a is = ap (λ (x : Answer). x.made) (answered a is) ∙ by (since c id n)
    where
      by : (changes_since : ChangesSince) → (changes_since_answer root (feed_query mode n id) changes_since (read_request Get request)).made ≡ None
      by Gone = refl
      by Unknown = refl
      by (ReportedChanges ns) = refl

  -- a diff document is sent where the document is gone, or the changes since the tag are known
  pub sends_a_notice : (a : Answer) → IsAnswer root c request a → since c id n ≢ Unknown → a.reply.status ≡ 200
  sends_a_notice a is known = ap (λ (x : Answer). x.reply.status) (answered a is) ∙ by (since c id n) known
    where
      by : (changes_since : ChangesSince) → changes_since ≢ Unknown → (changes_since_answer root (feed_query mode n id) changes_since (read_request Get request)).reply.status ≡ 200
      by Gone some = refl
      by Unknown some = absurd (some refl)
      by (ReportedChanges ns) some = refl

-- a step of the machine that answers such a request leaves the store contents unchanged
pub step_is_an_answer : (root : List ℕ) (c left : StoreContents) (m next : State) (mode : Mode) (n : ℕ) (id : DocId) (request : Request) (reply : SentReply) (edit : Option Edit)
    → AsksForFeed root mode n id request → Represents c m → Step root m request reply next edit → Represents left next → IsAnswer root c request (reply_only reply) × (left ≡ c)
step_is_an_answer root c left m next mode n id request reply edit asks stands step then =
    let none : option_map change_from_edit edit ≡ None = changes_nothing root (contents_of m) mode n id request asks (answer_with_edit reply edit) step.answers in
    let same : answer_with_edit reply edit ≡ reply_only reply = ap (λ (made : Option MadeChange). let a : Answer = record { reply = reply; made = made } in a) none in
    let stays : next ≡ m = step.goes_on ∙ ap (state_after_answer m) none in (
      subst (λ (s : StoreContents). IsAnswer root s request (reply_only reply)) (sym stands) (subst (IsAnswer root (contents_of m) request) same step.answers),
      then ∙ ap contents_of stays ∙ sym stands,
    )

-- what a server's answer says of such a request, whatever state the server's contents represent
pub asked : {E : Type 0} (root : List ℕ) (c left : StoreContents) (request : Request) (r : Result (MachineReply Edit) E) → (m : State) × Represents c m × IsValidState m
    → IfOk r (λ a. (m : State) → IsValidState m → Represents c m → (next : State) × ValidStep root m request a.reply next a.edit × Represents left next) → OnErr r (left ≡ c)
    → (mode : Mode) (n : ℕ) (id : DocId) → AsksForFeed root mode n id request → IfOk r (λ a. IsAnswer root c request (reply_only a.reply)) × (left ≡ c)
asked root c left request (Ok a) state steps stays mode n id asks =
    let step = steps state.0 state.2 state.1 in
    step_is_an_answer root c left state.0 step.0 mode n id request a.reply a.edit asks state.1 step.1.1 step.2
asked root c left request (Err e) state steps stays mode n id asks = (tt, stays)
