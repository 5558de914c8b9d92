-- A server whose changes are appended to a log does what the machine of its root does, in states.
use Rattle.std.proofs.Common.{◌≡◌, ℕ, List, Option, None, Some, Result, Ok, Err, IfOk, refl, sym, ap, subst, ◌∙◌}
use Rattle.http_wire.specs.declared.request.Request.{Request}
use Rattle.http_serve.specs.declared.machine.MachineReply.{MachineReply}
use Rattle.edit_ops.specs.declared.edit.Edit.{Edit}
use Rattle.change_log.specs.LogStates.{LogState}
use Rattle.logged_state.specs.DurableAnswers.{Accepts, Answers, Call, DurableState, appended, not_appended, stays}
use Rattle.store_core.specs.Contents.{Represents}
use Rattle.store_core.specs.State.{State}
use Rattle.store_core.specs.ValidStates.{IsValidState}
use Rattle.xcap_machine.specs.Machine.{ValidStep}
use Rattle.xcap_machine.specs.ServerStates.{ServerState}
use Rattle.xcap_server.specs.DurableSteps.{AnswersDurably}
use Rattle.xcap_server.specs.inner.ServerSteps.{AnswersRequest}
use Rattle.xcap_server.proofs.ServerStates.{StandsAt, follows_at}

module _ (root : List ℕ) where
  -- a request that the server would accept
  accepts_too : (s : ServerState) (m : State) → StandsAt root s m → (request : Request) → Accepts AnswersRequest s request → Accepts (ValidStep root) m request
  accepts_too s m here request a = let f = follows_at root s a.1 m request a.0 (Some a.2) here a.3 in (a.0, f.0, a.2, f.2)

  -- an answer
  pub answers_in_states : (s s' : ServerState) (m : State) (log log' : LogState) (call : Call Edit) → StandsAt root s m → Answers AnswersRequest (record { machine = s; log = log }) call (record { machine = s'; log = log' })
      → (m' : State) × StandsAt root s' m' × Answers (ValidStep root) (record { machine = m; log = log }) call (record { machine = m'; log = log' })
  answers_in_states s s' m log log' call here (stays none step same same_log) =
      let f = follows_at root s s' m call.request call.reply None here step in (f.0, f.1, stays none f.2 f.2.1.goes_on same_log)
  answers_in_states s s' m log log' call here (appended edit some step recordable now) =
      let f = follows_at root s s' m call.request call.reply (Some edit) here step in (f.0, f.1, appended edit some f.2 recordable now)
  answers_in_states s s' m log log' call here (not_appended none accepts reply same recordable not cause) =
      (m, subst (λ (x : ServerState). StandsAt root x m) (sym same) here, not_appended none (accepts_too s m here call.request accepts) reply refl recordable not cause)

-- the server's own call
module _ (s now s' : ServerState) (is : s ≡ now) (log log' : LogState) (request : Request) where
  here_at : (m : State) → IsValidState m → Represents now.content m → StandsAt now.root s m
  here_at m kept stands = record { same_root = ap (λ (x : ServerState). x.root) is; kept = kept; stands = subst (λ (x : ServerState). Represents x.content m) (sym is) stands }

  abbrev call_of : MachineReply Edit → Call Edit
  call_of a = record { request = request; reply = a.reply; edit = a.edit }

  abbrev IsAnswered : MachineReply Edit → Type 0
  IsAnswered a = Answers AnswersRequest (record { machine = s; log = log }) (call_of a) (record { machine = s'; log = log' })

  pub answered_durably : {E : Type 0} (r : Result (MachineReply Edit) E) → IfOk r IsAnswered
      → IfOk r (λ a. (m : State) → IsValidState m → Represents now.content m → AnswersDurably m (record { machine = now; log = log }) (call_of a) (record { machine = s'; log = log' }))
  answered_durably (Err e) h = tt
  answered_durably (Ok a) h = λ m kept stands.
      let o = answers_in_states now.root s s' m log log' (call_of a) (here_at m kept stands) h in
      record { next = o.0; kept = o.1.kept; stands = o.1.stands; same_root = o.1.same_root; answers = o.2 }
