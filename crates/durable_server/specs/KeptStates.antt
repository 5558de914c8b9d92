-- What a server with the log of its changes does, in states of the machine. RFC 4825, section 8,
-- defines what requests do; the log is the project's own.
use Rattle.std.specs.Prelude.{◌≡◌, ℕ, List, Option}
use Rattle.change_log.specs.LogStates.{LogState}
use Rattle.edit_ops.specs.declared.edit.Edit.{Edit}
use Rattle.http_wire.specs.declared.request.Request.{Request}
use Rattle.logged_state.specs.DurableAnswers.{Answers, DurableState}
use Rattle.logged_state.specs.Restarts.{KeepsCall}
use Rattle.reply_text.specs.ReplyHeads.{SentReply}
use Rattle.server_restarts.specs.KeptDocuments.{BeginsWithDocuments, KeepsDocuments}
use Rattle.store_core.specs.Contents.{Represents}
use Rattle.store_core.specs.State.{State}
use Rattle.store_core.specs.ValidStates.{IsValidState}
use Rattle.xcap_machine.specs.Machine.{ValidStep}
use Rattle.xcap_machine.specs.ServerStates.{ServerState}

-- A state of the machine, the log, and the request whose change is pending, if there is one: it
-- was answered by the 500, since when nothing was changed.
pub record KeptState : Type 0 where
  pub state : State
  pub log : LogState
  pub pending : Option Request

abbrev pub durable_state : KeptState → DurableState State
durable_state kept = record { machine = kept.state; log = kept.log }

-- The server has this root, this log, and the contents of this state; and the log keeps its
-- documents.
pub record IsKeptAt (root : List ℕ) (server : DurableState ServerState)
    (kept : KeptState) : Type 0 where
  pub same_root : server.machine.root ≡ root
  pub same_log : kept.log ≡ server.log
  pub valid : IsValidState kept.state
  pub stands : Represents server.machine.content kept.state
  pub keeps : KeepsDocuments root kept.state kept.pending kept.log.history.now

-- A request is answered as the machine of the root answers it, except for a change that couldn't
-- be appended to the log; and a crash at any moment of this leaves what leads a restart to the
-- documents before it, or to one change more: the pending one or that of this request.
pub record DurableStep (root : List ℕ) (old : KeptState) (request : Request) (reply : SentReply)
    (new : KeptState) (edit : Option Edit) : Type 0 where
  pub answers : Answers (ValidStep root) (durable_state old)
      (record { request = request; reply = reply; edit = edit }) (durable_state new)
  pub keeps : KeepsCall (ValidStep root) (BeginsWithDocuments root) (durable_state old) old.pending
      (record { request = request; reply = reply; edit = edit }) (durable_state new) new.pending
