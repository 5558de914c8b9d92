-- A machine with its log and its journal, as one machine.
use Rattle.std.proofs.Common.{◌≡◌, ℕ, suc, ◌+◌, Result, Ok, Err, Option, None, Some, IfOk, IfSome, OnErr, inl, refl, ap, arith}
use Rattle.reply_text.specs.ReplyHeads.{SentReply}
use Rattle.http_wire.specs.declared.request.Request.{Request}
use Rattle.edit_journal.specs.Journals.{IsJournalProgress, JournalState}
use Rattle.edit_journal.specs.JournalLogs.{LogFitsJournal, LogState}
use Rattle.edit_journal.proofs.Lengths.{record_length}
use Rattle.http_serve.specs.declared.machine.MachineReply.{MachineReply}
use Rattle.edit_journal.specs.LoggedRequests.{AnswersWithJournal, stays, entered, not_entered}
use Rattle.edit_journal.specs.LoggedPorts.{HasRoomForRecords}
use Rattle.edit_journal.specs.inner.JournaledMachines.{JournaledMachineState, JournaledMachineStep}

same_len : (log log' : LogState) (n : ℕ) → log'.len ≡ log.len → HasRoomForRecords log (suc n) → HasRoomForRecords log' n
same_len log log' n is h = omega (arith, is, h)

module _ {M E : Type 0} (Step : M → Request → SentReply → M → Option E → Type 0) (old new : JournaledMachineState M) (request : Request) where
  -- the log grows by at most one record for a request
  room_after : (reply : SentReply) (edit : Option E) → AnswersWithJournal Step (record { machine = old.machine; log = old.log; journal = old.journal }) request reply (record { machine = new.machine; log = new.log; journal = new.journal }) edit
      → (n : ℕ) → HasRoomForRecords old.log (suc n) → HasRoomForRecords new.log n
  room_after reply edit (stays none step same log journal) n h = same_len old.log new.log n (ap (λ (l : LogState). l.len) log) h
  room_after reply edit (entered made is step can adds) n h =
      let len : new.log.len ≡ old.log.len + _ = ap (λ (l : LogState). l.len) adds.0 in
      omega (arith, len, record_length request, can.short, h)
  room_after reply edit (not_entered none accepts is same can adds) n h = same_len old.log new.log n (ap (λ (l : LogState). l.len) adds.0) h

  -- whatever the reply
  pub takes_after : {R : Type 0} (P Q : Type 0) (r : Result (MachineReply E) R) → IfOk r (λ a. AnswersWithJournal Step (record { machine = old.machine; log = old.log; journal = old.journal }) request a.reply (record { machine = new.machine; log = new.log; journal = new.journal }) a.edit)
      → OnErr r (P × (new.log ≡ old.log) × Q) → LogFitsJournal new.log new.journal → (n : ℕ) → LogFitsJournal old.log old.journal × HasRoomForRecords old.log (suc n) → LogFitsJournal new.log new.journal × HasRoomForRecords new.log n
  takes_after P Q (Ok a) answers same fits n h = (fits, room_after a.reply a.edit answers n h.1)
  takes_after P Q (Err e) answers same fits n h = (fits, same_len old.log new.log n (ap (λ (l : LogState). l.len) same.1) h.1)

  -- the reply is a step
  pub step_after : {R : Type 0} (r : Result (MachineReply E) R) → IfOk r (λ a. AnswersWithJournal Step (record { machine = old.machine; log = old.log; journal = old.journal }) request a.reply (record { machine = new.machine; log = new.log; journal = new.journal }) a.edit)
      → IsJournalProgress old.journal new.journal → LogFitsJournal new.log new.journal → new.machine_name ≡ old.machine_name → new.log_name ≡ old.log_name → new.journal_name ≡ old.journal_name
      → IfOk r (λ a. JournaledMachineStep Step old request a.reply new a.edit)
  step_after (Ok a) answers goes fits machine log journal = record {
    answers = answers;
    goes = goes;
    fits = fits;
    same_machine = machine;
    same_log = log;
    same_journal = journal;
  }
  step_after (Err e) answers goes fits machine log journal = tt

-- a reply that the machine lends is a step that changes nothing
module _ {M E : Type 0} (Step : M → Request → SentReply → M → Option E → Type 0) (state : JournaledMachineState M) (request : Request) (fits : LogFitsJournal state.log state.journal) where
  goes_nowhere : (journal : JournalState) → IsJournalProgress journal journal
  goes_nowhere journal = record {
    later = omega arith;
    later_beneath = omega arith;
    cause = λ none. inl none;
    same_before = refl;
    same_holds = refl;
    same_aside = refl;
  }

  lent_one : (lent : Option SentReply) → IfSome lent (λ reply. Step state.machine request reply state.machine None) → IfSome lent (λ reply. JournaledMachineStep Step state request reply state None)
  lent_one None steps = tt
  lent_one (Some reply) step = record {
    answers = stays refl step refl refl refl;
    goes = goes_nowhere state.journal;
    fits = fits;
    same_machine = refl;
    same_log = refl;
    same_journal = refl;
  }

  pub lent_step : {R : Type 0} (r : Result (Option SentReply) R) → IfOk r (λ lent. IfSome lent (λ reply. Step state.machine request reply state.machine None))
      → IfOk r (λ lent. IfSome lent (λ reply. JournaledMachineStep Step state request reply state None))
  lent_step (Ok lent) steps = lent_one lent steps
  lent_step (Err e) steps = tt
