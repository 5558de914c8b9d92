-- The server's end of a connection in memory. The project's own.
use Rattle.std.specs.Prelude.{◌≡◌, ℕ, ◌≤◌, nat_lt, Bool, List, [], ◌∷◌, length, take, Some}
use Rattle.std.specs.Borrow.{GName}
use Rattle.xcap_io.specs.StreamStates.{StreamState, no_port, no_peer}
use Rattle.xcap_io.specs.ConnectionHistories.{Traffic}

-- The first `held` bytes of the replies are kept, all that fit into the buffer, and `is_over` says
-- whether there are more.
pub record KeepsReplyFront (room : List ℕ) (held : ℕ) (is_over : Bool)
    (replies : List ℕ) : Type 0 where
  pub within : held ≤ length room
  pub front : take held room ≡ take (length room) replies
  pub others : is_over ≡ nat_lt (length room) (length replies)

-- As a stream it gives the bytes that are left, and takes all bytes of replies. It never fails.
abbrev pub server_end_state : List ℕ → Traffic → GName → StreamState
server_end_state left passed name = record {
  inward = record { left = Some left; given = passed.given; ended = passed.ended };
  taken = passed.taken;
  read_faults = 0;
  write_faults = 0;
  holds = name ∷ [];
  aside = [];
  port = no_port;
  peer = no_peer;
}
