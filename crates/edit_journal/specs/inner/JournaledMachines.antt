-- A machine with its log and its journal, as one machine.
use Rattle.std.specs.Prelude.{◌≡◌, ℕ, suc, Option}
use Rattle.std.proofs.Common.{arith}
use Rattle.std.specs.Borrow.{GName}
use Rattle.reply_text.specs.ReplyHeads.{SentReply}
use Rattle.http_wire.specs.declared.request.Request.{Request}
use Rattle.edit_journal.specs.Journals.{IsJournalProgress, JournalState}
use Rattle.edit_journal.specs.JournalLogs.{LogFitsJournal, LogState}
use Rattle.edit_journal.specs.LoggedRequests.{AnswersWithJournal}
use Rattle.edit_journal.specs.LoggedPorts.{HasRoomForRecords}

-- the machine, and the references inside it, by name
pub record JournaledMachineState (M : Type 0) : Type 0 where
  pub machine : M
  pub log : LogState
  pub journal : JournalState
  pub machine_name : GName
  pub log_name : GName
  pub journal_name : GName

-- it answers a request, and its references are unchanged
pub record JournaledMachineStep {M E : Type 0}
    (Step : M → Request → SentReply → M → Option E → Type 0)
    (old : JournaledMachineState M) (request : Request) (reply : SentReply)
    (new : JournaledMachineState M)
    (edit : Option E) : Type 0 where
  pub answers : AnswersWithJournal Step
      (record { machine = old.machine; log = old.log; journal = old.journal }) request reply
      (record { machine = new.machine; log = new.log; journal = new.journal }) edit
  pub goes : IsJournalProgress old.journal new.journal
  pub fits : LogFitsJournal new.log new.journal
  pub same_machine : new.machine_name ≡ old.machine_name
  pub same_log : new.log_name ≡ old.log_name
  pub same_journal : new.journal_name ≡ old.journal_name

-- it can answer n more requests
abbrev pub CanAnswerRequests : {M : Type 0} → JournaledMachineState M → ℕ → Type 0
CanAnswerRequests wrapped n =
    LogFitsJournal wrapped.log wrapped.journal × HasRoomForRecords wrapped.log n

-- what can answer n + 1 requests can answer n
pub can_answer_fewer : {M : Type 0} (wrapped : JournaledMachineState M) (n : ℕ)
    → CanAnswerRequests wrapped (suc n) → CanAnswerRequests wrapped n
can_answer_fewer wrapped n takes = (takes.0, omega (arith, takes.1))
