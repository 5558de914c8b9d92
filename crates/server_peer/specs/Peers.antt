-- A peer over a server in memory, as its callers see it. The project's own.
use Rattle.std.specs.Prelude.{◌≡◌, ◌≢◌, ℕ, ◌-◌, ◌<◌, ◌⊎◌, min, true, false, List, [], ◌∷◌, ◌++◌}
use Rattle.std.specs.Prelude.{length, take, drop, Result, Ok, Err, None, MatchResult}
use Rattle.xcap_io.specs.StreamStates.{StreamState, input_state_of, no_port}
use Rattle.xcap_io.specs.ConnectionHistories.{ConnectionHistory, no_history, with_connection_end}
use Rattle.xcap_io.specs.ConnectionHistories.{with_read, with_next_connection}
use Rattle.xcap_io.specs.ConnectionHistories.{with_write}
use Rattle.xcap_io.specs.MemoryStreams.{count_plus_one}
use Rattle.xcap_machine.specs.ServerStates.{ServerState}
use Rattle.server_peer.specs.BufferStates.{RepliesState, WrittenState}
use Rattle.server_peer.specs.ServedBytes.{AddsReplies}

-- The server, the bytes written and replied on the current connection, the history of the
-- connections so far, the addresses of the connections, the latest first, and the number of failed
-- reads and writes.
pub record PeerOverServer : Type 0 where
  pub server : ServerState
  pub written : WrittenState
  pub replies : RepliesState
  pub history : ConnectionHistory
  pub addresses : List (List ℕ)
  pub read_faults : ℕ
  pub write_faults : ℕ

-- over this server, with buffers of this many bytes each way, and no connection yet
abbrev pub new_peer : ServerState → ℕ → PeerOverServer
new_peer server room = record {
  server = server;
  written = record { bytes = []; served = 0; room = room };
  replies = record { bytes = []; more = false; room = room };
  history = no_history;
  addresses = [];
  read_faults = 0;
  write_faults = 0;
}

-- As a stream it shows its traffic, but not what reads will give. `connect` never fails.
abbrev pub peer_line : PeerOverServer → StreamState
peer_line p = record {
  inward = input_state_of p.history.now;
  taken = p.history.now.taken;
  read_faults = p.read_faults;
  write_faults = p.write_faults;
  holds = [];
  aside = [];
  port = no_port;
  peer = record {
    to_come = None;
    begun = record { earlier = p.history.earlier; is_present = p.history.is_present };
    addresses = p.addresses;
    faults = 0;
  };
}

-- ---- writes

-- there is a current connection, and its buffer for written bytes isn't full
abbrev pub HasWriteRoom : PeerOverServer → Type 0
HasWriteRoom p = (p.history.is_present ≡ true) × (length p.written.bytes < p.written.room)

-- there is no current connection, or its buffer for written bytes is full
abbrev pub IsFull : PeerOverServer → Type 0
IsFull p = (p.history.is_present ≡ false) ⊎ (length p.written.bytes ≡ p.written.room)

-- the peer after these bytes were written on the current connection
abbrev pub with_written_bytes : PeerOverServer → List ℕ → PeerOverServer
with_written_bytes p bytes =
    record p {
      written = record p.written { bytes = p.written.bytes ++ bytes };
      history = with_write p.history bytes;
    }

-- A write takes the bytes that fit, and fails exactly where the buffer is full.
abbrev pub WritesToPeer : {E : Type 0} → PeerOverServer → PeerOverServer → List ℕ → Result ℕ E
    → Type 0
WritesToPeer old new piece (Ok n) =
    HasWriteRoom old × (n ≡ min (length piece) (old.written.room - length old.written.bytes))
    × (new ≡ with_written_bytes old (take n piece))
WritesToPeer old new piece (Err e) =
    IsFull old × (new ≡ record old { write_faults = count_plus_one old.write_faults })

-- ---- reads

-- the bytes that were written since the server's last replies
abbrev pub unserved_bytes : PeerOverServer → List ℕ
unserved_bytes p = drop p.written.served p.written.bytes

-- The server served all that was written since its last replies, as the bytes of one connection.
pub record ServesWritten (old new : PeerOverServer) : Type 0 where
  pub adds : AddsReplies old.server new.server (unserved_bytes old) old.replies new.replies
  pub leaves : new ≡ record old {
    server = new.server;
    written = record old.written { served = length old.written.bytes };
    replies = new.replies;
  }

-- Before a read gives anything, the server serves what was written since its last replies, if
-- anything was.
abbrev pub ServesPending : PeerOverServer → PeerOverServer → Type 0
ServesPending old new =
    ((unserved_bytes old ≡ []) × (new ≡ old)) ⊎ ((unserved_bytes old ≢ []) × ServesWritten old new)

-- the replies that no read has given yet
abbrev pub unread_replies : PeerOverServer → List ℕ
unread_replies p = drop (length p.history.now.given) p.replies.bytes

-- the buffer for replies was read to its end, and more are due
abbrev pub IsReplyBufferSpent : PeerOverServer → Type 0
IsReplyBufferSpent p = (length p.history.now.given ≡ p.replies.room) × (p.replies.more ≡ true)

-- A read of at most `wanted` bytes gives the next bytes of the replies, and fails exactly where
-- the buffer for replies was read to its end and more are due.
abbrev pub GivesReplies : {E : Type 0} → PeerOverServer → PeerOverServer → ℕ → Result ℕ E → Type 0
GivesReplies old new wanted (Ok n) =
    ¬ (IsReplyBufferSpent old) × (n ≡ min wanted (length (unread_replies old)))
    × (new ≡ record old { history = with_read old.history (take n (unread_replies old)) })
GivesReplies old new wanted (Err e) =
    IsReplyBufferSpent old × (new ≡ record old { read_faults = count_plus_one old.read_faults })

abbrev pub ReadsFromPeer : {E : Type 0} → PeerOverServer → PeerOverServer → ℕ → Result ℕ E → Type 0
ReadsFromPeer old new wanted result =
    (mid : PeerOverServer) × ServesPending old mid × GivesReplies mid new wanted result

-- ---- connections

-- the current connection ended, if there was one, and a new one at this address began
abbrev pub with_connection : PeerOverServer → List ℕ → PeerOverServer
with_connection p address = record p {
  written = record p.written { bytes = []; served = 0 };
  replies = record p.replies { bytes = []; more = false };
  history = with_next_connection (with_connection_end p.history);
  addresses = address ∷ p.addresses;
}

-- `connect` never fails
abbrev pub ConnectsPeer : {E : Type 0} → PeerOverServer → PeerOverServer → Result (Unit {0}) E
    → List ℕ → Type 0
ConnectsPeer old new result address =
    MatchResult result (λ _. new ≡ with_connection old address) (λ _. ⊥)
