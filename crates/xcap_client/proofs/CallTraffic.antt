-- The traffic on the connection of a call.
use Rattle.std.proofs.Common.{◌≡◌, ℕ, inl, inr, List, [], ◌++◌, Result, Err, encode_utf8_all, sym, ap, subst, ◌∙◌}
use Rattle.xcap_io.specs.StreamStates.{BegunConnections, InputState, StreamState, PeerState}
use Rattle.xcap_io.specs.Connections.{Connects, peer_traffic, traffic}
use Rattle.xcap_io.specs.ConnectionHistories.{Traffic, all_traffic}
use Rattle.xcap_io.specs.StreamWrites.{TakesProperPrefix}
use Rattle.xcap_client.specs.declared.request.Ask.{Ask}
use Rattle.xcap_client.specs.declared.response.Response.{Response}
use Rattle.xcap_client.specs.Requests.{request_bytes}
use Rattle.xcap_client.specs.Responses.{IsDecidedResponse, DecidesNothing}
use Rattle.xcap_client.specs.ReadFaults.{HoldsByCause}
use Rattle.xcap_client.specs.declared.client_fault.ClientFault.{ClientFault}
use Rattle.xcap_client.specs.declared.client_fault.ClientFault.TheVariants.{NoMemory, PeerFault}
use Rattle.xcap_client.specs.ServerAddresses.{address_of}
use Rattle.xcap_client.specs.Exchanges.{MakesExchange, not_begun, not_connected, not_sent, answered}
use Rattle.xcap_client.specs.Calls.{MakesCall, JudgesExchange}
use Rattle.xcap_client.specs.Connections.{ConnectsOnce, BeginsOneConnection, none_began, broke_off, responded}

-- a fault of an exchange is returned as it is
pub fault_stays : (given result : Result Response ClientFault) (fault : ClientFault) → given ≡ Err fault → JudgesExchange given result → result ≡ Err fault
fault_stays given result fault is judged = subst (λ (g : Result Response ClientFault). JudgesExchange g result) is judged

-- one more connection began after the others, with the traffic that its stream shows
one_began : (root : List ℕ) (old begun new : StreamState) → Connects old begun (encode_utf8_all (address_of root)) → new.peer ≡ begun.peer → BeginsOneConnection root old new (traffic new)
one_began root old begun new connects same = record {
  behind = ap (λ (b : BegunConnections). all_traffic b.earlier b.is_present (traffic new)) (ap (λ (p : PeerState). p.begun) same ∙ connects.begins);
  dialled = ap (λ (p : PeerState). p.addresses) same ∙ connects.dialled;
}

by_exchange : (root : List ℕ) (ask : Ask) (old new : StreamState) (given result : Result Response ClientFault) → MakesExchange root ask old new given → JudgesExchange given result → ConnectsOnce root ask old new result
by_exchange root ask old new given result (not_begun same is) judged =
    none_began (record { same = ap peer_traffic same; same_addresses = ap (λ (l : StreamState). l.peer.addresses) same }) (inl (fault_stays given result NoMemory is judged))
by_exchange root ask old new given result (not_connected failed is) judged =
    none_began (record { same = failed.keeps; same_addresses = failed.same_addresses }) (inr (fault_stays given result PeerFault is judged))
by_exchange root ask old new given result (not_sent begun connects writes rose prefix is) judged =
    let nothing : begun.taken ≡ [] = ap (λ (t : Traffic). t.taken) connects.nothing_passed in
    broke_off (traffic new) (one_began root old begun new connects writes.same_peer)
    (subst (λ (taken : List ℕ). TakesProperPrefix taken new.taken (request_bytes root ask)) nothing prefix)
    (fault_stays given result PeerFault is judged)
by_exchange root ask old new given result (answered begun sent answer connects writes same took reads answers counts is) judged =
    let nothing : begun.taken ≡ [] = ap (λ (t : Traffic). t.taken) connects.nothing_passed in
    let none : sent.inward.given ≡ [] = ap (λ (i : InputState). i.given) writes.same_inward ∙ ap (λ (t : Traffic). t.given) connects.nothing_passed in
    let whole : answers.read ≡ new.inward.given = sym (answers.given.behind ∙ ap (λ (l : List ℕ). l ++ answers.read) none) in
    responded (traffic new) answer (one_began root old begun new connects (reads.same_peer ∙ writes.same_peer))
    (reads.same_taken ∙ took ∙ ap (λ (l : List ℕ). l ++ request_bytes root ask) nothing)
    (subst (λ (read : List ℕ). HoldsByCause answer (DecidesNothing read) (IsDecidedResponse read new.inward.ended)) whole answers.answer)
    (subst (λ (g : Result Response ClientFault). JudgesExchange g result) is judged)

pub connects_once : (root : List ℕ) (ask : Ask) (old new : StreamState) (result : Result Response ClientFault) → MakesCall root ask old new result → ConnectsOnce root ask old new result
connects_once root ask old new result call = by_exchange root ask old new call.given result call.exchanges call.judged
