-- What a server does whose changes are appended to a log before they are made. RFC 4825, section 8;
-- the log is the project's own.
use Rattle.std.specs.Prelude.{◌≡◌}
use Rattle.edit_ops.specs.declared.edit.Edit.{Edit}
use Rattle.logged_state.specs.DurableAnswers.{Answers, Call, DurableState}
use Rattle.store_core.specs.Contents.{Represents}
use Rattle.store_core.specs.State.{State}
use Rattle.store_core.specs.ValidStates.{IsValidState}
use Rattle.xcap_machine.specs.Machine.{ValidStep}
use Rattle.xcap_machine.specs.ServerStates.{ServerState}

-- A request was answered as the machine of the root answers it from this state on, except for a
-- change that couldn't be appended to the log; and the server's contents represent the next state.
pub record AnswersDurably (m : State) (old : DurableState ServerState) (call : Call Edit)
    (new : DurableState ServerState) : Type 0 where
  pub next : State
  pub kept : IsValidState next
  pub stands : Represents new.machine.content next
  pub same_root : new.machine.root ≡ old.machine.root
  pub answers : Answers (ValidStep old.machine.root)
      (record { machine = m; log = old.log }) call (record { machine = next; log = new.log })
