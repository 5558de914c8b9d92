-- What a call does on a peer's connections, as the peer's state shows it (RFC 9112, section 9).
use Rattle.std.specs.Prelude.{◌≡◌, ℕ, ◌⊎◌, List, [], ◌∷◌, ◌++◌, Result, Err, encode_utf8_all}
use Rattle.xcap_io.specs.StreamStates.{StreamState, CountRises}
use Rattle.xcap_io.specs.Connections.{peer_traffic}
use Rattle.xcap_io.specs.ConnectionHistories.{Traffic}
use Rattle.xcap_io.specs.StreamWrites.{TakesProperPrefix}
use Rattle.xcap_client.specs.declared.response_fault.ResponseFault.{ResponseFault}
use Rattle.xcap_client.specs.declared.request.Ask.{Ask}
use Rattle.xcap_client.specs.declared.response.Response.{Response}
use Rattle.xcap_client.specs.Requests.{request_bytes}
use Rattle.xcap_client.specs.Responses.{IsDecidedResponse, DecidesNothing}
use Rattle.xcap_client.specs.ReadFaults.{HoldsByCause}
use Rattle.xcap_client.specs.declared.client_fault.ClientFault.{ClientFault}
use Rattle.xcap_client.specs.declared.client_fault.ClientFault.TheVariants.{NoMemory, PeerFault}
use Rattle.xcap_client.specs.ServerAddresses.{address_of}
use Rattle.xcap_client.specs.Calls.{JudgesExchange}
use Rattle.xcap_client.specs.Exchanges.{exchange_result}

-- no connection began
pub record BeginsNoConnection (old new : StreamState) : Type 0 where
  pub same : peer_traffic new ≡ peer_traffic old
  pub same_addresses : new.peer.addresses ≡ old.peer.addresses

-- one connection began, at the root's address, with this traffic
pub record BeginsOneConnection (root : List ℕ) (old new : StreamState)
    (passed : Traffic) : Type 0 where
  pub behind : peer_traffic new ≡ peer_traffic old ++ passed ∷ []
  pub dialled : new.peer.addresses ≡ encode_utf8_all (address_of root) ∷ old.peer.addresses

-- A call began no connection, and has no response; or it began one, and the request was written in
-- part; or it was written in whole, and the result is the meaning of the bytes given on that
-- connection.
pub data ConnectsOnce (root : List ℕ) (ask : Ask) (old new : StreamState)
    (result : Result Response ClientFault) : Type 0 where
  none_began : BeginsNoConnection old new → (result ≡ Err NoMemory) ⊎ (result ≡ Err PeerFault)
      → ConnectsOnce root ask old new result
  broke_off : (passed : Traffic) → BeginsOneConnection root old new passed
      → TakesProperPrefix [] passed.taken (request_bytes root ask)
      → result ≡ Err PeerFault → ConnectsOnce root ask old new result
  responded : (passed : Traffic) (answer : Result Response ResponseFault)
      → BeginsOneConnection root old new passed
      → passed.taken ≡ request_bytes root ask
      → HoldsByCause answer (DecidesNothing passed.given)
      (IsDecidedResponse passed.given passed.ended)
      → JudgesExchange (exchange_result answer) result
      → ConnectsOnce root ask old new result

-- a count of the peer rose: of failed connections, of failed writes or of failed reads
abbrev pub PeerFailed : StreamState → StreamState → Type 0
PeerFailed old new =
    CountRises old.peer.faults new.peer.faults
    ⊎ (CountRises old.write_faults new.write_faults ⊎ CountRises old.read_faults new.read_faults)
