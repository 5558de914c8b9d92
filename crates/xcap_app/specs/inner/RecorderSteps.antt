-- A server that records the status of each reply, as contracts of private functions see it.
use Rattle.std.proofs.Common.{arith}
use Rattle.std.specs.Prelude.{◌≡◌, ℕ, suc, ◌+◌, ◌≤◌, true, List, [], ◌∷◌, ◌++◌, length, map, Option}
use Rattle.xcap_io.specs.ConnectionHistories.{Traffic}
use Rattle.http_wire.specs.ServedConnections.{ServesAll, machine_without_faults}
use Rattle.http_serve.specs.FixedReplies.{fixed_reply}
use Rattle.http_serve.specs.ReplyBytes.{StepsInBytes}
use Rattle.reply_text.specs.ReplyHeads.{SentReply}
use Rattle.http_wire.specs.declared.request.Request.{Request}
use Rattle.edit_ops.specs.declared.edit.Edit.{Edit}
use Rattle.store_core.specs.Contents.{Represents, first_contents}
use Rattle.store_core.specs.ValidStates.{IsValidState}
use Rattle.store_core.specs.State.{State}
use Rattle.xcap_machine.specs.Machine.{ValidStep}
use Rattle.xcap_machine.specs.ServerStates.{ServerState}
use Rattle.xcap_app.specs.StatusRecorders.{RecordedState, RecordedStep}
use Rattle.xcap_app.specs.SampleRequests.{root_text}

-- the server, the recorded statuses, and the number of statuses that fit
pub record RecorderState : Type 0 where
  pub server : ServerState
  pub statuses : List ℕ
  pub room : ℕ

-- the server of the sample's root, without documents and statuses
abbrev pub new_recorder_state : ℕ → RecorderState
new_recorder_state room = record {
  server = record { root = root_text; content = first_contents 1 };
  statuses = [];
  room = room;
}

-- at least `n` more statuses fit
abbrev pub HasRoomForStatuses : RecorderState → ℕ → Type 0
HasRoomForStatuses s n = length s.statuses + n ≤ s.room

-- where n + 1 more statuses fit, n fit
pub has_room_for_fewer : (s : RecorderState) (n : ℕ) → HasRoomForStatuses s (suc n)
    → HasRoomForStatuses s n
has_room_for_fewer s n room = omega (arith, room)

-- from each valid state that the server's contents represent, the machine of its root makes this
-- step, and the contents then represent the next state
abbrev pub FollowsMachine : ServerState → Request → SentReply → ServerState → Option Edit → Type 0
FollowsMachine old request reply new edit =
    (m : State) → IsValidState m → Represents old.content m
    → (next : State) × IsValidState next × Represents new.content next
    × ValidStep old.root m request reply next edit

-- The server answered as the machine of its root, and appended the status of the reply to the
-- others.
pub record AnswersRecording (old : RecorderState) (request : Request) (reply : SentReply)
    (new : RecorderState) (edit : Option Edit) : Type 0 where
  pub same_root : new.server.root ≡ old.server.root
  pub follows : FollowsMachine old.server request reply new.server edit
  pub notes : new.statuses ≡ old.statuses ++ reply.status ∷ []

-- the server's contents represent this state of the machine of the root, and the recorded statuses
-- are the same
pub record RepresentsRecorded (root : List ℕ) (s : RecorderState) (m : RecordedState) : Type 0 where
  pub same_root : s.server.root ≡ root
  pub kept : IsValidState m.state
  pub stands : Represents s.server.content m.state
  pub noted : m.statuses ≡ s.statuses

-- Connections with these bytes were served to their end, with no fault, by the machine of the root
-- from this state on, and the server's contents then represent the state that they lead to.
pub record ServesConnectionBytes (root : List ℕ) (all : List (List ℕ)) (s : RecorderState)
    (m : RecordedState) : Type 0 where
  pub connections : List Traffic
  pub all_bytes : map (λ c. c.given) connections ≡ all
  pub all_ends : map (λ c. c.ended) connections ≡ map (λ c. true) connections
  pub next : RecordedState
  pub edits : List Edit
  pub stands : RepresentsRecorded root s next
  pub serves : ServesAll (StepsInBytes (RecordedStep root)) fixed_reply (machine_without_faults m)
      (machine_without_faults next) connections edits
