-- A server whose changes are appended to a log does what the machine of its root does, except for
-- changes that couldn't be appended.
use Rattle.std.proofs.Common.{◌≡◌, ℕ, true, false, Option, None, Some, is_some, Result, Ok, Err, IfOk, OnOk, OnErr, IsErrOf, refl, ap, subst, ◌∙◌}
use Rattle.http_wire.specs.declared.request.Request.{Request}
use Rattle.http_serve.specs.declared.machine.MachineReply.{MachineReply}
use Rattle.edit_ops.specs.declared.edit.Edit.{Edit}
use Rattle.reply_text.specs.ReplyHeads.{plain_reply}
use Rattle.request_checks.specs.Methods.{method_of}
use Rattle.request_checks.specs.declared.method.Method.{Method}
use Rattle.request_checks.specs.declared.method.Method.TheVariants.{Get, Head, Put, Delete, Other}
use Rattle.change_log.specs.LogContents.{with_change}
use Rattle.change_log.specs.LogStates.{HasCause, LogState, FailsToAppend, kept_contents}
use Rattle.change_log.specs.LogHistories.{settled_moment}
use Rattle.change_log.specs.declared.change_log.AppendFault.{AppendFault}
use Rattle.change_log.specs.declared.change_log.AppendFault.TheVariants.{Failed, NoMemory}
use Rattle.change_records.specs.Records.{IsRecordable, change_record, is_writing}
use Rattle.logged_state.specs.DurableAnswers.{Answers, appended, not_appended, stays}
use Rattle.store_core.specs.StoreViews.{StoreView}
use Rattle.xcap_machine.specs.Answers.{Answer, MadeChange}
use Rattle.xcap_machine.specs.Machine.{answer_with_edit, content_after_answer}
use Rattle.xcap_machine.specs.Requests.{IsAnswer}
use Rattle.xcap_machine.specs.ServerStates.{ServerState}
use Rattle.xcap_put.specs.Decisions.{DecidesAnswer, answer_of}
use Rattle.xcap_put.specs.declared.decision.Decision.{Decision}
use Rattle.xcap_server.specs.inner.ServerSteps.{AnswersRequest, CarriesOutDecision, entered_as}
use Rattle.xcap_server.proofs.DecisionAnswers.{answered_so}
use Rattle.xcap_server.proofs.LoggedServers as logged
use Rattle.xcap_server.proofs.LoggedServers.{accepts_so, no_edit, no_made, same_server, some_edit, some_made, writes}

writing_too : (method : Method) → logged.is_writing method ≡ true → is_writing method ≡ true
writing_too Get h = let no : ⊥ = cc in absurd no
writing_too Head h = let no : ⊥ = cc in absurd no
writing_too Put h = refl
writing_too Delete h = refl
writing_too Other h = let no : ⊥ = cc in absurd no

module _ (old new : ServerState) (request : Request) (s : StoreView) (d : Decision) (same : s.content ≡ old.content) (decides : DecidesAnswer (IsAnswer old.root old.content request) s d) (root : new.root ≡ old.root) where
  abbrev Answered : LogState → LogState → MachineReply Edit → Type 0
  Answered log log' a = Answers AnswersRequest (record { machine = old; log = log }) (record { request = request; reply = a.reply; edit = a.edit }) (record { machine = new; log = log' })

  -- a request that makes no change
  pub answered_stays : (a : MachineReply Edit) (log : LogState) → is_some (answer_of d).made ≡ false → answer_with_edit a.reply a.edit ≡ answer_of d → new.content ≡ content_after_answer s.content (answer_of d).made → Answered log log a
  answered_stays a log none gives makes =
      let is_none : (answer_of d).made ≡ None = no_made (answer_of d).made none in
      let no : a.edit ≡ None = no_edit a.edit (ap (λ (x : Answer). x.made) gives ∙ is_none) in
      let step : AnswersRequest old request a.reply new a.edit = answered_so old new request s d a same decides gives makes root in
      stays no (subst (λ (e : Option Edit). AnswersRequest old request a.reply new e) no step)
      (same_server old new root (makes ∙ ap (λ (o : Option MadeChange). content_after_answer s.content o) is_none ∙ same)) refl

  -- a request that makes a change has a record
  pub has_record : is_some (answer_of d).made ≡ true → (is_writing (method_of request.method) ≡ true → IsRecordable request) → IsRecordable request
  has_record some recordable =
      let made = some_made (answer_of d).made some in
      recordable (writing_too (method_of request.method) (writes old.root old.content request (answer_of d) made.0 made.1 decides.answers).0)

  -- what an append did
  pub record Appends (result : Result ℕ AppendFault) (log log' : LogState) : Type 0 where
    pub ok : OnOk result (log'.history.now ≡ settled_moment (with_change (change_record request) (kept_contents log)))
    pub err : OnErr result (FailsToAppend (change_record request) log.history.now log'.history.now)
    pub cause : IsErrOf result Failed → HasCause log log'

  module _ {E : Type 0} (r : Result (MachineReply Edit) E) (s' : StoreView) (holds : new.content ≡ s'.content) (some : is_some (answer_of d).made ≡ true) (recordable : is_writing (method_of request.method) ≡ true → IsRecordable request) where
    made : (m : MadeChange) × ((answer_of d).made ≡ Some m)
    made = some_made (answer_of d).made some

    was_appended : (a : MachineReply Edit) (log log' : LogState) → answer_with_edit a.reply a.edit ≡ answer_of d → s'.content ≡ content_after_answer s.content (answer_of d).made → log'.history.now ≡ settled_moment (with_change (change_record request) (kept_contents log)) → Answered log log' a
    was_appended a log log' gives makes now =
        let told = some_edit a.edit made.0 (ap (λ (x : Answer). x.made) gives ∙ made.1) in
        let step : AnswersRequest old request a.reply new a.edit = answered_so old new request s d a same decides gives (holds ∙ makes) root in
        appended told.0 told.1 (subst (λ (e : Option Edit). AnswersRequest old request a.reply new e) told.1 step) (has_record some recordable) now

    was_not : (a : MachineReply Edit) (log log' : LogState) → a.reply ≡ plain_reply 500 request.closes → a.edit ≡ None → s'.content ≡ s.content → FailsToAppend (change_record request) log.history.now log'.history.now → HasCause log log' → Answered log log' a
    was_not a log log' reply none kept not cause =
        not_appended none (accepts_so old request (answer_of d) made.0 made.1 decides.answers) reply (same_server old new root (holds ∙ kept ∙ same)) (has_record some recordable) not cause

    pub answered_by : (result : Result ℕ AppendFault) (log log' : LogState) → CarriesOutDecision s (record { request = request; decision = d }) (entered_as result) r s' → Appends result log log' → IfOk r (Answered log log')
    answered_by result log log' does appends = by r result does appends
      where
        by : (r : Result (MachineReply Edit) E) (result : Result ℕ AppendFault) → CarriesOutDecision s (record { request = request; decision = d }) (entered_as result) r s' → Appends result log log' → IfOk r (Answered log log')
        by (Ok a) (Ok number) does appends = was_appended a log log' does.0 does.1 appends.ok
        by (Ok a) (Err Failed) does appends = was_not a log log' does.0 does.1 does.2 appends.err (appends.cause refl)
        by (Ok a) (Err NoMemory) does appends = absurd does
        by (Err e) result does appends = tt

    -- memory ran out before anything was done
    pub nothing_by : {L : Type 0} (result : Result ℕ AppendFault) (log log' : L) → CarriesOutDecision s (record { request = request; decision = d }) (entered_as result) r s' → (IsErrOf result NoMemory → log' ≡ log) → OnErr r ((new ≡ old) × (log' ≡ log))
    nothing_by {L} result log log' does quiet = by r result does quiet
      where
        by : (r : Result (MachineReply Edit) E) (result : Result ℕ AppendFault) → CarriesOutDecision s (record { request = request; decision = d }) (entered_as result) r s' → (IsErrOf result NoMemory → log' ≡ log) → OnErr r ((new ≡ old) × (log' ≡ log))
        by (Ok a) result does quiet = tt
        by (Err e) (Ok number) does quiet = absurd does
        by (Err e) (Err Failed) does quiet = absurd does
        by (Err e) (Err NoMemory) does quiet = (same_server old new root (holds ∙ does ∙ same), quiet refl)
