-- The machine of a root, with the statuses of its replies so far. RFC 4825, section 8.
use Rattle.std.specs.Prelude.{◌≡◌, ℕ, List, [], ◌∷◌, ◌++◌, Option}
use Rattle.reply_text.specs.ReplyHeads.{SentReply}
use Rattle.http_wire.specs.declared.request.Request.{Request}
use Rattle.edit_ops.specs.declared.edit.Edit.{Edit}
use Rattle.store_core.specs.State.{State, first_state}
use Rattle.xcap_machine.specs.Machine.{ValidStep}

-- a state, and the statuses so far, in order
pub record RecordedState : Type 0 where
  pub state : State
  pub statuses : List ℕ

-- the state without documents, and no reply yet
abbrev pub initial_recorded_state : RecordedState
initial_recorded_state = record { state = first_state 1; statuses = [] }

-- A step of the machine, whose reply's status is appended to the others.
pub record RecordedStep (root : List ℕ) (m : RecordedState) (request : Request) (reply : SentReply)
    (next : RecordedState) (edit : Option Edit) : Type 0 where
  pub step : ValidStep root m.state request reply next.state edit
  pub notes : next.statuses ≡ m.statuses ++ reply.status ∷ []
