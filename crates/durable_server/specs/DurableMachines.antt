-- A server with the log of its changes, as a machine. RFC 4825, section 8, defines what requests
-- do; the log is the project's own.
use Rattle.std.specs.Prelude.{◌≡◌, ℕ, ◌+◌, ◌≤◌, ◌-◌, ◌^◌, true}
use Rattle.change_log.specs.LogContents.{next_number}
use Rattle.change_log.specs.LogStates.{kept_contents}
use Rattle.edit_ops.specs.declared.edit.Edit.{Edit}
use Rattle.logged_state.specs.DurableAnswers.{Call, DurableState, FindsChange}
use Rattle.store_core.specs.Contents.{Represents}
use Rattle.store_core.specs.State.{State}
use Rattle.store_core.specs.ValidStates.{IsValidState}
use Rattle.xcap_machine.specs.ServerStates.{ServerState}
use Rattle.xcap_server.specs.DurableSteps.{AnswersDurably}
use Rattle.durable_server.specs.KeptStates.{IsKeptAt, KeptState}

-- A request was answered as the machine of the root answers it from each valid state that the
-- contents represent, with its change appended first; and a crash at any moment leaves what a
-- restart found before, or that with the change of this request.
pub record StepsDurably (old : DurableState ServerState) (call : Call Edit)
    (new : DurableState ServerState) : Type 0 where
  pub answers : (m : State) → IsValidState m → Represents old.machine.content m
      → AnswersDurably m old call new
  pub any_moment : FindsChange old.log call.request new.log

-- The server can answer this many more requests: its log keeps its documents, is sound and begun,
-- and has numbers for their changes.
pub record CanAnswer (IsSound : Type 0) (server : DurableState ServerState) (n : ℕ) : Type 0 where
  pub kept : KeptState
  pub is_kept : IsKeptAt server.machine.root server kept
  pub sound : IsSound
  pub begun : server.log.is_begun ≡ true
  pub numbers_left : next_number (kept_contents server.log) + n ≤ 2 ^ 64 - 1
