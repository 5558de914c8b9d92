-- What a server with the log of its changes does is a step in states that the log keeps.
use Rattle.std.proofs.Common.{ℕ, List, Option, refl, sym, subst, ◌∙◌}
use Rattle.edit_ops.specs.declared.edit.Edit.{Edit}
use Rattle.halls.specs.HallState.{HallState}
use Rattle.hall_serve.specs.Exchanges.{Exchange}
use Rattle.hall_serve.specs.Seats.{SeatState}
use Rattle.hall_serve.specs.ServedHalls.{HasServed, ServesOn}
use Rattle.http_serve.specs.ReplyBytes.{StepsInBytes}
use Rattle.http_wire.specs.declared.request.Request.{Request}
use Rattle.logged_state.specs.DurableAnswers.{Answers, Call, DurableState, FindsChange}
use Rattle.logged_state.proofs.Crashes.{in_call}
use Rattle.change_log.specs.LogStates.{LogState}
use Rattle.reply_text.specs.ReplyHeads.{SentReply}
use Rattle.server_restarts.specs.KeptDocuments.{BeginsWithDocuments}
use Rattle.server_restarts.proofs.OneState.{same_change}
use Rattle.xcap_machine.specs.Machine.{ValidStep}
use Rattle.xcap_machine.specs.ServerStates.{ServerState}
use Rattle.xcap_server.specs.DurableSteps.{AnswersDurably}
use Rattle.xcap_server.proofs.HallSimulations.{hall_by}
use Rattle.durable_server.specs.DurableMachines.{StepsDurably}
use Rattle.durable_server.specs.KeptStates.{DurableStep, IsKeptAt, KeptState}

-- an answer of a server at a kept state
pub follows_kept : (root : List ℕ) (old new : DurableState ServerState) (kept : KeptState) (request : Request) (reply : SentReply) (edit : Option Edit) → IsKeptAt root old kept
    → StepsDurably old (record { request = request; reply = reply; edit = edit }) new
    → (next : KeptState) × IsKeptAt root new next × DurableStep root kept request reply next edit
follows_kept root old new kept request reply edit here step =
    let call : Call Edit = record { request = request; reply = reply; edit = edit } in
    let log : DurableState ServerState = record { machine = old.machine; log = kept.log } in
    let is : AnswersDurably kept.state log call new =
    subst (λ (l : LogState). AnswersDurably kept.state (record { machine = old.machine; log = l }) call new) (sym here.same_log) (step.answers kept.state here.valid here.stands) in
    let finds : FindsChange kept.log request new.log = subst (λ (l : LogState). FindsChange l request new.log) (sym here.same_log) step.any_moment in
    let answers = subst (λ (r : List ℕ). Answers (ValidStep r) (record { machine = kept.state; log = kept.log }) call (record { machine = is.next; log = new.log })) here.same_root is.answers in
    let made = in_call (ValidStep root) (BeginsWithDocuments root) (same_change root) (record { machine = kept.state; log = kept.log }) (record { machine = is.next; log = new.log }) kept.pending call here.keeps answers finds in (
      record { state = is.next; log = new.log; pending = made.0 },
      record { same_root = is.same_root ∙ here.same_root; same_log = refl; valid = is.kept; stands = is.stands; keeps = made.1.kept },
      record { answers = answers; keeps = made.1 },
    )

-- Servers with their logs, as values of any type.
module _ {S : Type 0} (at : S → DurableState ServerState) where
  abbrev Steps : S → Request → SentReply → S → Option Edit → Type 0
  Steps old request reply new edit = StepsDurably (at old) (record { request = request; reply = reply; edit = edit }) (at new)

  step_kept : (root : List ℕ) (s s' : S) (kept : KeptState) (request : Request) (bytes : List ℕ) (edit : Option Edit) → IsKeptAt root (at s) kept → StepsInBytes Steps s request bytes s' edit
      → (next : KeptState) × IsKeptAt root (at s') next × StepsInBytes (DurableStep root) kept request bytes next edit
  step_kept root s s' kept request bytes edit here a =
      let t = follows_kept root (at s) (at s') kept request a.reply edit here a.step in (t.0, t.1, record { reply = a.reply; written = a.written; step = t.2 })

-- what servers with their logs did in a hall are steps in states that the logs keep
pub hall_kept : {S W : Type 0} (s s' : S) (at : S → DurableState ServerState) (Keeps : List Edit → W → W → Type 0) (failures : ℕ) (hall hall' : HallState) (seats seats' : List (Option SeatState)) (w w' : W)
    → ((all : List (Exchange Edit)) → HasServed hall seats all
    → ServesOn (StepsInBytes (Steps at)) Keeps all failures (record { machine = s; hall = hall; seats = seats; watchers = w }) (record { machine = s'; hall = hall'; seats = seats'; watchers = w' }))
    → (root : List ℕ) (kept : KeptState) (all : List (Exchange Edit)) → IsKeptAt root (at s) kept → HasServed hall seats all
    → (next : KeptState) × IsKeptAt root (at s') next
    × ServesOn (StepsInBytes (DurableStep root)) Keeps all failures (record { machine = kept; hall = hall; seats = seats; watchers = w }) (record { machine = next; hall = hall'; seats = seats'; watchers = w' })
hall_kept {S} s s' at Keeps failures hall hall' seats seats' w w' serves root kept all here before =
    hall_by (StepsInBytes (Steps at)) (StepsInBytes (DurableStep root)) (λ (x : S) (k : KeptState). IsKeptAt root (at x) k) (step_kept at root) Keeps all failures s s' kept hall hall' seats seats' w w' here (serves all before)
