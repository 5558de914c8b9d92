-- Bytes that a server serves as one connection. RFC 9112, section 9; the buffer for its replies is
-- the project's own.
use Rattle.std.specs.Prelude.{◌≡◌, ℕ, true, List}
use Rattle.xcap_io.specs.ConnectionHistories.{Traffic}
use Rattle.http_wire.specs.ServedConnections.{ServesConnection}
use Rattle.http_wire.specs.declared.close_reason.CloseReason.TheVariants.{Closed}
use Rattle.http_serve.specs.FixedReplies.{fixed_reply}
use Rattle.http_serve.specs.ReplyBytes.{StepsInBytes}
use Rattle.edit_ops.specs.declared.edit.Edit.{Edit}
use Rattle.store_core.specs.Contents.{Represents}
use Rattle.store_core.specs.ValidStates.{IsValidState}
use Rattle.store_core.specs.State.{State}
use Rattle.xcap_machine.specs.Machine.{ValidStep}
use Rattle.xcap_machine.specs.ServerStates.{ServerState}
use Rattle.server_peer.specs.BufferStates.{RepliesState, with_replies}

-- all bytes of a connection, to their end, and all replies
abbrev pub whole_traffic : List ℕ → List ℕ → Traffic
whole_traffic asked replies = record { given = asked; ended = true; taken = replies }

-- From a valid state the machine of the root, served these bytes as all bytes of a connection,
-- gives these replies, and the server's contents then represent the valid state that it leads to.
pub record RepliesFromState (old new : ServerState) (asked replies : List ℕ)
    (m : State) : Type 0 where
  pub next : State
  pub kept : IsValidState next
  pub stands : Represents new.content next
  pub edits : List Edit
  pub serves : ServesConnection (StepsInBytes (ValidStep old.root)) fixed_reply Closed m
      (whole_traffic asked replies)
      next
      edits

-- The server served these bytes with these replies, by the machine of its root, from each valid
-- state that its contents represent.
pub record RepliesToBytes (old new : ServerState) (asked replies : List ℕ) : Type 0 where
  pub same_root : new.root ≡ old.root
  pub by_machine : (m : State) → IsValidState m → Represents old.content m
      → RepliesFromState old new asked replies m

-- The server served these bytes, and the replies are appended to the earlier ones, as far as they
-- fit.
pub record AddsReplies (old new : ServerState) (asked : List ℕ)
    (before after : RepliesState) : Type 0 where
  pub replies : List ℕ
  pub served : RepliesToBytes old new asked replies
  pub behind : after ≡ with_replies before replies
