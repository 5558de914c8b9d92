-- Answers of a server with the log of its changes.
use Rattle.std.proofs.Common.{◌≡◌, ℕ, suc, ◌+◌, ◌-◌, ◌≤◌, ◌^◌, true, List, Option, None, Some, Result, Ok, Err, IfOk, IfSome, OnErr, refl, sym, ap, subst, ◌∙◌, arith}
use Rattle.change_log.specs.LogContents.{next_number, with_change}
use Rattle.change_log.specs.LogHistories.{IsFoundBeforeOr}
use Rattle.change_log.specs.LogStates.{LogState, kept_contents}
use Rattle.change_log.proofs.Passing.{no_call}
use Rattle.change_records.specs.Records.{change_record}
use Rattle.edit_ops.specs.declared.edit.Edit.{Edit}
use Rattle.http_serve.specs.declared.machine.MachineReply.{MachineReply}
use Rattle.http_wire.specs.declared.request.Request.{Request}
use Rattle.logged_state.specs.DurableAnswers.{Call, DurableState, FindsChange, stays}
use Rattle.reply_text.specs.ReplyHeads.{SentReply}
use Rattle.store_core.specs.Contents.{Represents, StoreContents}
use Rattle.store_core.specs.State.{State}
use Rattle.store_core.specs.ValidStates.{IsValidState}
use Rattle.xcap_get.specs.LentReplies.{IsFoundReply, LendsFoundReply}
use Rattle.xcap_machine.specs.Answers.{reply_only}
use Rattle.xcap_machine.specs.Machine.{ValidStep}
use Rattle.xcap_machine.specs.Requests.{IsAnswer}
use Rattle.xcap_machine.specs.ServerStates.{ServerState}
use Rattle.xcap_machine.proofs.Steps.{answer_closes}
use Rattle.xcap_server.specs.DurableSteps.{AnswersDurably}
use Rattle.durable_server.specs.DurableMachines.{CanAnswer, StepsDurably}
use Rattle.durable_server.specs.KeptStates.{IsKeptAt, durable_state}
use Rattle.durable_server.proofs.KeptSteps.{follows_kept}
use Rattle.durable_server.proofs.LogNumbers.{number_after}

-- ---- a reply that is lent

module _ (server : ServerState) (log : LogState) (request : Request) where
  abbrev here : DurableState ServerState
  here = record { machine = server; log = log }

  lent_step : (reply : SentReply) → IsFoundReply server.root server.content request reply → StepsDurably here (record { request = request; reply = reply; edit = None }) here
  lent_step reply found = record {
    answers = λ m valid stands.
        let step : ValidStep server.root m request reply m None =
        (valid, record { answers = subst (λ (c : StoreContents). IsAnswer server.root c request (reply_only reply)) stands found.answers; goes_on = refl }, valid) in
        record { next = m; kept = valid; stands = stands; same_root = refl; answers = stays refl step refl refl };
    any_moment = no_call (IsFoundBeforeOr log.history (with_change (change_record request) (kept_contents log))) log.history;
  }

  pub lent_steps : {E : Type 0} (r : Result (Option SentReply) E) → IfOk r (λ lent. LendsFoundReply server.root server.content request lent)
      → IfOk r (λ lent. IfSome lent (λ reply. StepsDurably here (record { request = request; reply = reply; edit = None }) here))
  lent_steps (Err e) h = tt
  lent_steps (Ok None) h = tt
  lent_steps (Ok (Some reply)) h = lent_step reply h

  pub lent_closes : {E : Type 0} (r : Result (Option SentReply) E) → IfOk r (λ lent. LendsFoundReply server.root server.content request lent) → IfOk r (λ lent. IfSome lent (λ reply. reply.closes ≡ request.closes))
  lent_closes (Err e) h = tt
  lent_closes (Ok None) h = tt
  lent_closes (Ok (Some reply)) h = answer_closes server.root server.content request (reply_only reply) h.answers

-- ---- an answer

module _ (old new : DurableState ServerState) (request : Request) (moments : FindsChange old.log request new.log) where
  abbrev called : MachineReply Edit → Call Edit
  called a = record { request = request; reply = a.reply; edit = a.edit }

  abbrev IsAnswered : MachineReply Edit → Type 0
  IsAnswered a = (m : State) → IsValidState m → Represents old.machine.content m → AnswersDurably m old (called a) new

  pub answered_steps : {E : Type 0} (r : Result (MachineReply Edit) E) → IfOk r IsAnswered → IfOk r (λ a. StepsDurably old (called a) new)
  answered_steps (Err e) h = tt
  answered_steps (Ok a) h = record { answers = h; any_moment = moments }

  -- one request fewer can be answered
  module _ (IsSound IsSoundThen : Type 0) (sound : IsSoundThen) (begun : new.log.is_begun ≡ true) where
    after_answer : (a : MachineReply Edit) → IsAnswered a → (n : ℕ) → CanAnswer IsSound old (suc n) → CanAnswer IsSoundThen new n
    after_answer a answered n can =
        let t = follows_kept old.machine.root old new can.kept request a.reply a.edit can.is_kept (record { answers = answered; any_moment = moments }) in
        let left : next_number (kept_contents old.log) + suc n ≤ 2 ^ 64 - 1 = can.numbers_left in
        let before : next_number (kept_contents can.kept.log) ≡ next_number (kept_contents old.log) = ap (λ (l : LogState). next_number (kept_contents l)) can.is_kept.same_log in
        let after : next_number (kept_contents t.0.log) ≡ next_number (kept_contents new.log) = ap (λ (l : LogState). next_number (kept_contents l)) t.1.same_log in
        let rises : next_number (kept_contents t.0.log) ≤ next_number (kept_contents can.kept.log) + 1 = number_after (ValidStep old.machine.root) (durable_state can.kept) (called a) (durable_state t.0) t.2.answers in
        record {
          kept = t.0;
          is_kept = subst (λ (r : List ℕ). IsKeptAt r new t.0) (sym t.1.same_root) t.1;
          sound = sound;
          begun = begun;
          numbers_left = omega (arith, left, before, after, rises);
        }

    pub takes_after : {E : Type 0} (r : Result (MachineReply Edit) E) → IfOk r IsAnswered → OnErr r (new ≡ old) → (n : ℕ) → CanAnswer IsSound old (suc n) → CanAnswer IsSoundThen new n
    takes_after (Ok a) answered same n can = after_answer a answered n can
    takes_after (Err e) answered same n can =
        let left : next_number (kept_contents old.log) + suc n ≤ 2 ^ 64 - 1 = can.numbers_left in
        let number : next_number (kept_contents new.log) ≡ next_number (kept_contents old.log) = ap (λ (s : DurableState ServerState). next_number (kept_contents s.log)) same in
        record {
          kept = can.kept;
          is_kept = subst (λ (s : DurableState ServerState). IsKeptAt s.machine.root s can.kept) (sym same) can.is_kept;
          sound = sound;
          begun = begun;
          numbers_left = omega (arith, left, number);
        }

-- nothing was done
pub all_same : {E J X : Type 0} (state : J → LogState) (s s' : ServerState) (j j' : J) (r : Result X E) → OnErr r ((s' ≡ s) × (j' ≡ j)) → OnErr r (◌≡◌ {A = DurableState ServerState} (record { machine = s'; log = state j' }) (record { machine = s; log = state j }))
all_same state s s' j j' (Ok a) h = tt
all_same state s s' j j' (Err e) h =
    ap (λ (x : ServerState). record { machine = x; log = state j' }) h.0 ∙ ap (λ x. record { machine = s; log = state x }) h.1
