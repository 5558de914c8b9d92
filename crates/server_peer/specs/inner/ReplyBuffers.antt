-- The bytes that a server served, with the replies that fit into a buffer.
use Rattle.std.specs.Prelude.{◌≡◌, ℕ, Bool, List, length}
use Rattle.xcap_machine.specs.ServerStates.{ServerState}
use Rattle.server_peer.specs.inner.ServerEnds.{KeepsReplyFront}
use Rattle.server_peer.specs.ServedBytes.{RepliesToBytes}

-- A buffer whose first `held` bytes are replies, and whether there are more.
pub record ReplyBuffer : Type 0 where
  pub room : List ℕ
  pub held : ℕ
  pub is_over : Bool

-- The server served these bytes, and the front of the replies is in the buffer, all that fits into
-- the room that it had.
pub record FillsReplyBuffer (old new : ServerState) (asked room : List ℕ)
    (buffer : ReplyBuffer) : Type 0 where
  pub replies : List ℕ
  pub served : RepliesToBytes old new asked replies
  pub same_room : length buffer.room ≡ length room
  pub keeps : KeepsReplyFront buffer.room buffer.held buffer.is_over replies
