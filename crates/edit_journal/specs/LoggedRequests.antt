-- How a request is answered by a machine that records each accepted request in a log before it
-- makes the change. This is the project's own.
use Rattle.std.specs.Prelude.{◌≡◌, ◌<◌, Option, None, Some, Ok, Err}
use Rattle.reply_text.specs.ReplyHeads.{SentReply, plain_reply}
use Rattle.http_wire.specs.declared.request.Request.{Request}
use Rattle.edit_journal.specs.declared.journal_log.AppendFault.TheVariants.{Failed}
use Rattle.edit_journal.specs.Journals.{JournalState}
use Rattle.edit_journal.specs.JournalLogs.{LogState, LoggedJournal, AddsRecord}
use Rattle.edit_journal.specs.Records.{IsRecordable, method_number, record_of}

-- a PUT or DELETE is within the bounds of a record
abbrev pub IsLoggable : Request → Type 0
IsLoggable request = 0 < method_number request.method → IsRecordable request

-- a machine, the log of the requests that it accepted, and the journal of that log
pub record JournaledState (M : Type 0) : Type 0 where
  pub machine : M
  pub log : LogState
  pub journal : JournalState

-- its log and its journal
abbrev pub logged_journal : {M : Type 0} → JournaledState M → LoggedJournal
logged_journal state = record { log = state.log; journal = state.journal }

-- M is the type of the machine's states, and E the type of its edits.
module _ {M E : Type 0} (Step : M → Request → SentReply → M → Option E → Type 0) where
  -- the machine makes a change on this request
  abbrev pub AcceptsRequest : M → Request → Type 0
  AcceptsRequest machine request =
      (reply : SentReply) × (next : M) × (edit : E) × Step machine request reply next (Some edit)

  -- How a request was answered, by the edit, if there was one. A request that makes no change is
  -- answered as the machine answers it. One that makes a change was recorded in the log, and is
  -- answered the same way; or it couldn't be recorded, gets a 500, and nothing changed except the
  -- journal after the complete records.
  pub data AnswersWithJournal (old : JournaledState M) (request : Request) (reply : SentReply)
      (new : JournaledState M) (edit : Option E) : Type 0 where
    stays : edit ≡ None → Step old.machine request reply new.machine None
        → new.machine ≡ old.machine → new.log ≡ old.log → new.journal ≡ old.journal
        → AnswersWithJournal old request reply new edit
    entered : (made : E) → edit ≡ Some made
        → Step old.machine request reply new.machine (Some made) → IsRecordable request
        → AddsRecord (logged_journal old) (record_of request) (Ok tt) (logged_journal new)
        → AnswersWithJournal old request reply new edit
    not_entered : edit ≡ None → AcceptsRequest old.machine request
        → reply ≡ plain_reply 500 request.closes → new.machine ≡ old.machine → IsRecordable request
        → AddsRecord (logged_journal old) (record_of request) (Err Failed) (logged_journal new)
        → AnswersWithJournal old request reply new edit
