-- How a request is answered by a machine whose changes are appended to a log before they are made.
-- This is the project's own.
use Rattle.std.specs.Prelude.{◌≡◌, List, [], ◌∷◌, Option, None, Some}
use Rattle.reply_text.specs.ReplyHeads.{SentReply, plain_reply}
use Rattle.http_wire.specs.declared.request.Request.{Request}
use Rattle.change_log.specs.LogContents.{with_change}
use Rattle.change_log.specs.LogStates.{HasCause, LogState, FailsToAppend, kept_contents}
use Rattle.change_log.specs.LogHistories.{IsFoundBeforeOr, HoldsAtEachMoment, settled_moment}
use Rattle.change_records.specs.Records.{IsRecordable, change_record}

-- a machine, and the log of its changes
pub record DurableState (M : Type 0) : Type 0 where
  pub machine : M
  pub log : LogState

-- a request, its reply, and the edit, if it made a change
pub record Call (E : Type 0) : Type 0 where
  pub request : Request
  pub reply : SentReply
  pub edit : Option E

-- a crash at any moment leaves what a restart found before, or the change of this request
abbrev pub FindsChange : LogState → Request → LogState → Type 0
FindsChange old request new =
    HoldsAtEachMoment
    (IsFoundBeforeOr old.history (with_change (change_record request) (kept_contents old)))
    old.history new.history

-- M is the type of the machine's states, and E the type of its edits.
module _ {M E : Type 0} (Step : M → Request → SentReply → M → Option E → Type 0) where
  -- the machine makes a change on this request
  abbrev pub Accepts : M → Request → Type 0
  Accepts machine request =
      (reply : SentReply) × (next : M) × (edit : E) × Step machine request reply next (Some edit)

  -- How a request was answered. One that makes no change is answered as the machine answers it.
  -- The change of another was appended to the log, and it is answered the same way; or it couldn't
  -- be appended, it gets the 500, and the machine is unchanged.
  pub data Answers (old : DurableState M) (call : Call E) (new : DurableState M) : Type 0 where
    stays : call.edit ≡ None → Step old.machine call.request call.reply new.machine None
        → new.machine ≡ old.machine → new.log ≡ old.log → Answers old call new
    appended : (edit : E) → call.edit ≡ Some edit
        → Step old.machine call.request call.reply new.machine (Some edit)
        → IsRecordable call.request
        → new.log.history.now
        ≡ settled_moment (with_change (change_record call.request) (kept_contents old.log))
        → Answers old call new
    not_appended : call.edit ≡ None → Accepts old.machine call.request
        → call.reply ≡ plain_reply 500 call.request.closes → new.machine ≡ old.machine
        → IsRecordable call.request
        → FailsToAppend (change_record call.request) old.log.history.now new.log.history.now
        → HasCause old.log new.log → Answers old call new

  -- the calls were answered so, one after the other
  abbrev pub AnswersAll : DurableState M → List (Call E) → DurableState M → Type 0
  AnswersAll old [] new = new ≡ old
  AnswersAll old (call ∷ calls) new =
      (mid : DurableState M) × Answers old call mid
      × FindsChange old.log call.request mid.log × AnswersAll mid calls new
