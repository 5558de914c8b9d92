-- What a server did with one request. RFC 4825, section 8.
use Rattle.std.specs.Prelude.{◌≡◌, ℕ, Option, None, Result, Ok, Err}
use Rattle.reply_text.specs.ReplyHeads.{SentReply, plain_reply}
use Rattle.http_wire.specs.declared.request.Request.{Request}
use Rattle.edit_ops.specs.declared.edit.Edit.{Edit}
use Rattle.edit_journal.specs.declared.journal_log.AppendFault.{AppendFault}
use Rattle.edit_journal.specs.declared.journal_log.AppendFault.TheVariants.{Failed, NoMemory}
use Rattle.change_log.specs.declared.change_log.AppendFault as appends
use Rattle.change_log.specs.declared.change_log.AppendFault.TheVariants as append_faults
use Rattle.store_core.specs.StoreViews.{StoreView}
use Rattle.xcap_machine.specs.Machine.{ContentStep, answer_with_edit, content_after_answer}
use Rattle.xcap_put.specs.Decisions.{answer_of}
use Rattle.xcap_put.specs.declared.decision.Decision.{Decision}
use Rattle.http_serve.specs.declared.machine.MachineReply.{MachineReply}
use Rattle.xcap_machine.specs.ServerStates.{ServerState}

-- A server answers a request by this reply, with this edit, if it made a change, and its contents
-- are then the next ones, under the same root.
pub record AnswersRequest (old : ServerState) (request : Request) (reply : SentReply)
    (new : ServerState) (edit : Option Edit) : Type 0 where
  pub does : ContentStep old.root old.content request reply new.content edit
  pub same_root : new.root ≡ old.root

-- nothing was done, since memory ran out
abbrev pub IsUnchanged : ServerState → ServerState → Type 0
IsUnchanged old new = new ≡ old

-- a request, and what was decided on it
pub record DecidedRequest : Type 0 where
  pub request : Request
  pub decision : Decision

-- what an append to a log of changes did, as the same of a journal
abbrev pub entered_as : Result ℕ appends.AppendFault → Result (Unit {0}) AppendFault
entered_as (Ok number) = Ok tt
entered_as (Err append_faults.Failed) = Err Failed
entered_as (Err append_faults.NoMemory) = Err NoMemory

-- a decision is carried out where the request's record was added; where it couldn't be, the answer
-- is the 500, and no change is made
abbrev pub CarriesOutDecision : {E : Type 0} → StoreView → DecidedRequest
    → Result (Unit {0}) AppendFault
    → Result (MachineReply Edit) E → StoreView → Type 0
CarriesOutDecision old decided (Ok x) (Ok a) new =
    (answer_with_edit a.reply a.edit ≡ answer_of decided.decision)
    × (new.content ≡ content_after_answer old.content (answer_of decided.decision).made)
CarriesOutDecision old decided (Err Failed) (Ok a) new =
    (a.reply ≡ plain_reply 500 decided.request.closes) × (a.edit ≡ None)
    × (new.content ≡ old.content)
CarriesOutDecision old decided (Err NoMemory) (Err e) new = new.content ≡ old.content
CarriesOutDecision old decided _ _ new = ⊥
