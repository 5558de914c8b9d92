-- What the server of `host` does, on each state that its contents represent.
use Rattle.std.specs.Prelude.{◌≡◌, Option}
use Rattle.edit_ops.specs.declared.edit.Edit.{Edit}
use Rattle.reply_text.specs.ReplyHeads.{SentReply}
use Rattle.http_wire.specs.declared.request.Request.{Request}
use Rattle.store_core.specs.Contents.{Represents}
use Rattle.store_core.specs.State.{State}
use Rattle.store_core.specs.ValidStates.{IsValidState}
use Rattle.xcap_machine.specs.ServerStates.{ServerState}
use Rattle.host_status.specs.HostSteps.{HostStep}

-- a request gets this reply, the watchers are notified of this edit, if there is one, and the
-- server is then the new one, of the same root
pub record AnswersAsHost (old : ServerState) (request : Request) (reply : SentReply)
    (new : ServerState) (edit : Option Edit) : Type 0 where
  pub same_root : new.root ≡ old.root
  pub steps : (m : State) → IsValidState m → Represents old.content m
      → (next : State) × HostStep old.root m request reply next edit × Represents new.content next
