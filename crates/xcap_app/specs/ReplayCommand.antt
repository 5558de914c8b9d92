-- What `replay` does, by how it ends. The machine follows RFC 4825; the command is the
-- project's own.
use Rattle.std.specs.Prelude.{◌≡◌, ℕ, List}
use Rattle.store_core.specs.ValidStates.{IsValidState}
use Rattle.store_core.specs.State.{State, first_state}
use Rattle.xcap_machine.specs.Machine.{ValidStep}
use Rattle.edit_ops.specs.declared.edit.Edit.{Edit}
use Rattle.xcap_io.specs.ConnectionHistories.{Traffic}
use Rattle.xcap_io.specs.StreamTraffic.{GivesBytes, TakesBytes}
use Rattle.http_wire.specs.ServedConnections.{ServesConnection}
use Rattle.http_serve.specs.FaultCounts.{CountsFaultOfReason}
use Rattle.http_serve.specs.FixedReplies.{fixed_reply}
use Rattle.http_serve.specs.ReplyBytes.{StepsInBytes}
use Rattle.http_wire.specs.declared.close_reason.CloseReason.{CloseReason}
use Rattle.http_wire.specs.declared.close_reason.CloseReason.TheVariants.{Closed, ReadFailed}
use Rattle.http_wire.specs.declared.close_reason.CloseReason.TheVariants.{WriteFailed}
use Rattle.xcap_app.specs.StreamFrames.{ReadsOnly, WritesOnly}
use Rattle.xcap_app.specs.RunStates.{ReplayState}
use Rattle.xcap_app.specs.declared.exit.Exit.{Exit}
use Rattle.xcap_app.specs.declared.exit.Exit.TheVariants.{Done, InputFailed, OutputFailed}
use Rattle.xcap_app.specs.declared.exit.Exit.TheVariants.{OutOfMemory}

-- W is the type of the watchers, and `Keeps` relates them before and after such changes.
module _ {W : Type 0} (Keeps : List Edit → W → W → Type 0) where
  -- The input was served as one connection by the machine of this root from this state on, through
  -- valid states, with subscribers kept up to date by the replies to feeds. The traffic is the
  -- bytes that the input gave, whether its last read found the end, and the bytes that the output
  -- took, which are the replies. The connection ended for that reason, the watchers were notified
  -- of the changes, in order, and nothing else was done with the input and the output.
  pub record ServesInput (root : List ℕ) (before : State) (ended : CloseReason)
      (old new : ReplayState W) : Type 0 where
    pub state : State
    pub kept : IsValidState state
    pub passed : Traffic
    pub edits : List Edit
    pub gave : GivesBytes old.input.inward new.input.inward passed.given
    pub found_end : passed.ended ≡ new.input.inward.ended
    pub took : TakesBytes old.output.taken new.output.taken passed.taken
    pub serves : ServesConnection (StepsInBytes (ValidStep root)) fixed_reply ended before passed
        state edits
    pub notified : Keeps edits old.watchers new.watchers
    pub faults : CountsFaultOfReason ended old.input.read_faults new.input.read_faults
        old.output.write_faults new.output.write_faults
    pub just_read : ReadsOnly old.input new.input
    pub just_written : WritesOnly old.output new.output

  -- The connection was served, from the state without documents whose next number is 1, and the
  -- command ends as the connection did; or memory ran out, and nothing was done.
  abbrev pub ReplaysCommand : List ℕ → Exit → ReplayState W → ReplayState W → Type 0
  ReplaysCommand root Done old new = ServesInput root (first_state 1) Closed old new
  ReplaysCommand root InputFailed old new = ServesInput root (first_state 1) ReadFailed old new
  ReplaysCommand root OutputFailed old new = ServesInput root (first_state 1) WriteFailed old new
  ReplaysCommand root OutOfMemory old new = new ≡ old
  ReplaysCommand root _ old new = ⊥
