-- Where a call fails with `PeerFault`, a count of the peer rose.
use Rattle.std.proofs.Common.{◌≡◌, ℕ, inl, inr, List, Result, Ok, Err, subst, ◌∙◌}
use Rattle.xcap_io.specs.StreamStates.{StreamState, CountRises}
use Rattle.xcap_client.specs.declared.response_fault.ResponseFault.{ResponseFault}
use Rattle.xcap_client.specs.declared.response_fault.ResponseFault.TheVariants as responses
use Rattle.xcap_client.specs.declared.request.Ask.{Ask}
use Rattle.xcap_client.specs.declared.response.Response.{Response}
use Rattle.xcap_client.specs.ReadFaults.{CountsReadFault}
use Rattle.xcap_client.specs.declared.client_fault.ClientFault.{ClientFault}
use Rattle.xcap_client.specs.declared.client_fault.ClientFault.TheVariants.{BadResponse, NoMemory, PeerFault}
use Rattle.xcap_client.specs.Exchanges.{MakesExchange, exchange_result, not_begun, not_connected, not_sent, answered}
use Rattle.xcap_client.specs.Calls.{MakesCall, JudgesResponse, JudgesExchange, succeeds, refuses, lacks_memory}
use Rattle.xcap_client.specs.Connections.{PeerFailed}
use Rattle.xcap_client.proofs.CallTraffic.{fault_stays}

-- the result is the fault of the response, which is another one
abbrev answered_as : ClientFault → Result Response ClientFault
answered_as fault = Err fault

bad : (fault : ResponseFault) → answered_as PeerFault ≡ answered_as (BadResponse fault) → ⊥
bad fault same = cc

no_memory : answered_as PeerFault ≡ answered_as NoMemory → ⊥
no_memory same = cc

-- no response is judged to be a fault of the peer
never_judged : (response : Response) → JudgesResponse response (Err PeerFault) → ⊥
never_judged response (succeeds is same) = cc
never_judged response (refuses name is names same) = cc
never_judged response (lacks_memory is same) = cc

by_answer : (answer : Result Response ResponseFault) (before now : ℕ) → JudgesExchange (exchange_result answer) (Err PeerFault) → CountsReadFault before now answer → CountRises before now
by_answer (Ok response) before now judged counts = absurd (never_judged response judged)
by_answer (Err responses.ReadFailed) before now judged counts = counts
by_answer (Err responses.NoMemory) before now judged counts = absurd (no_memory judged)
by_answer (Err responses.Head) before now judged counts = absurd (bad responses.Head judged)
by_answer (Err responses.Coding) before now judged counts = absurd (bad responses.Coding judged)
by_answer (Err responses.Length) before now judged counts = absurd (bad responses.Length judged)
by_answer (Err (responses.TooLong n)) before now judged counts = absurd (bad (responses.TooLong n) judged)
by_answer (Err (responses.Short have wanted)) before now judged counts = absurd (bad (responses.Short have wanted) judged)

by_exchange : (root : List ℕ) (ask : Ask) (old new : StreamState) (given : Result Response ClientFault) → MakesExchange root ask old new given → JudgesExchange given (Err PeerFault) → PeerFailed old new
by_exchange root ask old new given (not_begun same is) judged =
    absurd (no_memory (fault_stays given (Err PeerFault) NoMemory is judged))
by_exchange root ask old new given (not_connected failed is) judged = inl failed.rose
by_exchange root ask old new given (not_sent begun connects writes rose prefix is) judged =
    inr (inl (subst (λ (n : ℕ). CountRises n new.write_faults) connects.same_write_faults rose))
by_exchange root ask old new given (answered begun sent answer connects writes same took reads answers counts is) judged =
    let fault : JudgesExchange (exchange_result answer) (Err PeerFault) = subst (λ (g : Result Response ClientFault). JudgesExchange g (Err PeerFault)) is judged in
    inr (inr (subst (λ (n : ℕ). CountRises n new.read_faults) (writes.same_read_faults ∙ connects.same_read_faults) (by_answer answer sent.read_faults new.read_faults fault counts)))

pub peer_failed : (root : List ℕ) (ask : Ask) (old new : StreamState) → MakesCall root ask old new (Err PeerFault) → PeerFailed old new
peer_failed root ask old new call = by_exchange root ask old new call.given call.exchanges call.judged
