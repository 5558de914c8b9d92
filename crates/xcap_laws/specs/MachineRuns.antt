-- Runs of the machine, from state to state, whatever holds in the states.
use Rattle.std.specs.Prelude.{ℕ, List, Option}
use Rattle.edit_ops.specs.declared.edit.Edit.{Edit}
use Rattle.reply_text.specs.ReplyHeads.{SentReply}
use Rattle.http_wire.specs.declared.request.Request.{Request}
use Rattle.store_core.specs.State.{State}
use Rattle.xcap_machine.specs.Machine.{Step}

-- the machine of this root gets from one state to another by any number of steps, each the answer
-- to any request
pub data ReachesBySteps (root : List ℕ) : State → State → Type 0 where
  stays : (m : State) → ReachesBySteps root m m
  goes_on : (m n last : State) (request : Request) (reply : SentReply) (edit : Option Edit)
      → Step root m request reply n edit → ReachesBySteps root n last → ReachesBySteps root m last
