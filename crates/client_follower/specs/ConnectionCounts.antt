-- The number of connections that the client's calls begin. RFC 9112, section 9; the model of
-- connections is the project's own.
use Rattle.std.specs.Prelude.{◌≡◌, ◌⊎◌, ℕ, ◌≤◌, List, ◌++◌, length, replicate, Result, Ok, Err}
use Rattle.std.specs.Prelude.{encode_utf8_all}
use Rattle.xcap_io.specs.StreamStates.{StreamState}
use Rattle.xcap_io.specs.Connections.{peer_traffic}
use Rattle.xcap_io.specs.ConnectionHistories.{Traffic}
use Rattle.xcap_client.specs.declared.response.Response.{Response}
use Rattle.xcap_client.specs.ServerAddresses.{address_of}
use Rattle.xcap_client.specs.declared.client_fault.ClientFault.{ClientFault}
use Rattle.xcap_client.specs.declared.client_fault.ClientFault.TheVariants as clients
use Rattle.client_follower.specs.FollowerStates.{FollowerState}
use Rattle.client_follower.specs.declared.follower_fault.FollowerFault.{FollowerFault}
use Rattle.client_follower.specs.declared.feed_rounds.Round.{Round}

-- `count` connections began, each at the root's address, after those before.
pub record BeginsConnections (root : List ℕ) (count : ℕ) (old new : StreamState) : Type 0 where
  pub passed : List Traffic
  pub many : length passed ≡ count
  pub behind : peer_traffic new ≡ peer_traffic old ++ passed
  pub dialled : new.peer.addresses
      ≡ replicate count (encode_utf8_all (address_of root)) ++ old.peer.addresses

-- one began; or none did, and the call was out of memory or the peer failed
abbrev pub CallBeginsConnections : List ℕ → StreamState → StreamState → Result Response ClientFault
    → Type 0
CallBeginsConnections root old new result =
    BeginsConnections root 1 old new
    ⊎ (BeginsConnections root 0 old new
    × ((result ≡ Err clients.NoMemory) ⊎ (result ≡ Err clients.PeerFault)))

-- at most one began, and one where the follower started
abbrev pub StartBeginsConnections : List ℕ → StreamState → StreamState
    → Result FollowerState FollowerFault → Type 0
StartBeginsConnections root old new result =
    (count : ℕ) × BeginsConnections root count old new × (count ≤ 1)
    × ((f : FollowerState) → result ≡ Ok f → count ≡ 1)

-- at most two began, and at least one where the round succeeded
abbrev pub RoundBeginsConnections : List ℕ → StreamState → StreamState → Result Round FollowerFault
    → Type 0
RoundBeginsConnections root old new result =
    (count : ℕ) × BeginsConnections root count old new × (count ≤ 2)
    × ((round : Round) → result ≡ Ok round → 1 ≤ count)
