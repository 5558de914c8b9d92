-- What contracts see of a stream, and what a call on it may change. This is the project's own
-- model of input and output.
use Rattle.std.specs.Prelude.{◌≡◌, ℕ, ◌+◌, ◌-◌, ◌^◌, ◌≤◌, min, List, [], Bool, false, Option, None}
use Rattle.std.specs.Prelude.{Result, MatchResult}
use Rattle.std.specs.Borrow.{GName}
use Rattle.xcap_io.specs.ConnectionHistories.{Traffic}

-- The input side of a stream.
pub record InputState : Type 0 where
  -- the bytes that reads will give from here on: known of a stream in memory, unknown of a real
  -- stream or socket
  pub left : Option (List ℕ)
  -- the bytes that reads have given so far; of a port or a peer, on its present connection alone
  pub given : List ℕ
  -- whether the last read that didn't fail found the end of the input
  pub ended : Bool

-- the input side of a stream that doesn't show what is left, over which this passed
abbrev pub input_state_of : Traffic → InputState
input_state_of now = record { left = None; given = now.given; ended = now.ended }

-- The connections that have begun on a port or a peer: what passed over each one that ended, and
-- whether one is present. What passed over the present one is what the stream has given and taken.
pub record BegunConnections : Type 0 where
  pub earlier : List Traffic
  pub is_present : Bool

-- What a port has besides a source and a sink.
pub record PortState : Type 0 where
  -- the address of the last `listen` that returned `Ok`, and None before that, where the port
  -- shows it
  pub listening : Option (Option (List ℕ))
  -- the bytes that each connection still to come will give, where the port shows them; a port that
  -- doesn't never ends
  pub to_come : Option (List (List ℕ))
  -- the connections that have begun
  pub begun : BegunConnections
  -- how often `listen` and `next` have failed
  pub faults : ℕ

-- What a peer has besides a source and a sink.
pub record PeerState : Type 0 where
  -- the bytes that each connection still to come will give, where the peer shows them
  pub to_come : Option (List (List ℕ))
  -- the connections that have begun
  pub begun : BegunConnections
  -- the address of each connection, latest first
  pub addresses : List (List ℕ)
  -- how often `connect` has failed
  pub faults : ℕ

-- nothing was read, and what is left isn't shown
abbrev pub no_input : InputState
no_input = record { left = None; given = []; ended = false }

-- no connection has begun
abbrev pub no_connections : BegunConnections
no_connections = record { earlier = []; is_present = false }

-- of a stream that is no port
abbrev pub no_port : PortState
no_port = record { listening = None; to_come = None; begun = no_connections; faults = 0 }

-- of a stream that is no peer
abbrev pub no_peer : PeerState
no_peer = record { to_come = None; begun = no_connections; addresses = []; faults = 0 }

-- What a stream made of two others hides of one of them: of an input, what it has taken and its
-- count of failed writes; of an output, what it has given and its count of failed reads; of both,
-- their connections, and the references and hidden states that they have themselves.
pub record HiddenState : Type 0 where
  pub inward : InputState
  pub taken : List ℕ
  pub faults : ℕ
  pub port : PortState
  pub peer : PeerState
  pub holds : ℕ
  pub aside : ℕ

-- A stream at one moment.
pub record StreamState : Type 0 where
  pub inward : InputState
  -- the bytes that writes have handed over so far; of a port or a peer, on its present connection
  -- alone
  pub taken : List ℕ
  -- how many reads, and how many writes, have failed
  pub read_faults : ℕ
  pub write_faults : ℕ
  -- the references inside the stream, by name: no call replaces one of them
  pub holds : List GName
  -- what the stream hides of those that it is made of: no call changes it
  pub aside : List HiddenState
  pub port : PortState
  pub peer : PeerState

-- where a counter stops
abbrev pub greatest_count : ℕ
greatest_count = 2 ^ 64 - 1

-- the counter rose by at least n, or is at the greatest value
abbrev pub CountRisesBy : ℕ → ℕ → ℕ → Type 0
CountRisesBy n before now = min (before + n) greatest_count ≤ now

abbrev pub CountRises : ℕ → ℕ → Type 0
CountRises before now = CountRisesBy 1 before now

-- the counter is unchanged where the call returned `Ok`, and rose where it failed
abbrev pub CountsFaults : {T E : Type 0} → ℕ → ℕ → Result T E → Type 0
CountsFaults before now result = MatchResult result (λ _. now ≡ before) (λ _. CountRises before now)

-- Only reads happened between the two states, if anything did.
pub record DiffersByReads (old new : StreamState) : Type 0 where
  pub later : old.read_faults ≤ new.read_faults
  pub same_taken : new.taken ≡ old.taken
  pub same_write_faults : new.write_faults ≡ old.write_faults
  pub same_holds : new.holds ≡ old.holds
  pub same_aside : new.aside ≡ old.aside
  pub same_port : new.port ≡ old.port
  pub same_peer : new.peer ≡ old.peer

-- The call only read. Where it failed the count of read faults rose, else it is unchanged.
pub record OnlyReads {T E : Type 0} (old new : StreamState) (result : Result T E) : Type 0 where
  pub reads : DiffersByReads old new
  pub counts : CountsFaults old.read_faults new.read_faults result

-- Only writes happened between the two states, if anything did.
pub record DiffersByWrites (old new : StreamState) : Type 0 where
  pub later : old.write_faults ≤ new.write_faults
  pub same_inward : new.inward ≡ old.inward
  pub same_read_faults : new.read_faults ≡ old.read_faults
  pub same_holds : new.holds ≡ old.holds
  pub same_aside : new.aside ≡ old.aside
  pub same_port : new.port ≡ old.port
  pub same_peer : new.peer ≡ old.peer

-- The call only wrote. Where it failed the count of write faults rose, else it is unchanged.
pub record OnlyWrites {T E : Type 0} (old new : StreamState) (result : Result T E) : Type 0 where
  pub writes : DiffersByWrites old new
  pub counts : CountsFaults old.write_faults new.write_faults result
