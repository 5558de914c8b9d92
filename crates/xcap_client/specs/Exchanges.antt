-- What an exchange did on a peer, and its result: one connection of its own, one request, and the
-- response to it (RFC 9112, section 9).
use Rattle.std.specs.Prelude.{◌≡◌, ℕ, List, Result, Ok, Err, encode_utf8_all}
use Rattle.xcap_io.specs.StreamStates.{StreamState, CountRises, DiffersByReads, DiffersByWrites}
use Rattle.xcap_io.specs.Connections.{Connects, ConnectFailed}
use Rattle.xcap_io.specs.StreamTraffic.{TakesBytes}
use Rattle.xcap_io.specs.StreamWrites.{TakesProperPrefix}
use Rattle.xcap_client.specs.declared.response_fault.ResponseFault.{ResponseFault}
use Rattle.xcap_client.specs.declared.response_fault.ResponseFault.TheVariants as responses
use Rattle.xcap_client.specs.declared.request.Ask.{Ask}
use Rattle.xcap_client.specs.declared.response.Response.{Response}
use Rattle.xcap_client.specs.Requests.{request_bytes}
use Rattle.xcap_client.specs.Responses.{ReadsAnswer}
use Rattle.xcap_client.specs.ReadFaults.{CountsReadFault}
use Rattle.xcap_client.specs.declared.client_fault.ClientFault.{ClientFault}
use Rattle.xcap_client.specs.declared.client_fault.ClientFault.TheVariants as faults
use Rattle.xcap_client.specs.ServerAddresses.{address_of}

-- the fault of an exchange whose response has this fault: a failed read is the peer's, and out of
-- memory stays so
abbrev pub exchange_fault : ResponseFault → ClientFault
exchange_fault responses.ReadFailed = faults.PeerFault
exchange_fault responses.NoMemory = faults.NoMemory
exchange_fault fault = faults.BadResponse fault

-- the result of an exchange whose response was read with this result
abbrev pub exchange_result : Result Response ResponseFault → Result Response ClientFault
exchange_result (Ok response) = Ok response
exchange_result (Err fault) = Err (exchange_fault fault)

-- One exchange: memory ran out before it; or no connection began; or one at the root's address
-- began, and a write failed, so that a proper prefix of the request was written; or the whole
-- request was, and then the response was read.
pub data MakesExchange (root : List ℕ) (ask : Ask) (old new : StreamState)
    (result : Result Response ClientFault) : Type 0 where
  not_begun : new ≡ old → result ≡ Err faults.NoMemory → MakesExchange root ask old new result
  not_connected : ConnectFailed old new → result ≡ Err faults.PeerFault
      → MakesExchange root ask old new result
  not_sent : (begun : StreamState) → Connects old begun (encode_utf8_all (address_of root))
      → DiffersByWrites begun new
      → CountRises begun.write_faults new.write_faults
      → TakesProperPrefix begun.taken new.taken (request_bytes root ask)
      → result ≡ Err faults.PeerFault → MakesExchange root ask old new result
  answered : (begun sent : StreamState) (answer : Result Response ResponseFault)
      → Connects old begun (encode_utf8_all (address_of root)) → DiffersByWrites begun sent
      → sent.write_faults ≡ begun.write_faults
      → TakesBytes begun.taken sent.taken (request_bytes root ask) → DiffersByReads sent new
      → ReadsAnswer sent.inward new.inward answer
      → CountsReadFault sent.read_faults new.read_faults answer → result ≡ exchange_result answer
      → MakesExchange root ask old new result
