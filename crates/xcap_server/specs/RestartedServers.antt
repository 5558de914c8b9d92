-- The contents of a server that restarted from a journal which breaks off. RFC 4825, section 8,
-- defines what requests do; the rest is the project's own.
use Rattle.std.specs.Prelude.{◌≡◌, List}
use Rattle.http_wire.specs.declared.request.Request.{Request}
use Rattle.store_core.specs.Contents.{Represents}
use Rattle.store_core.specs.State.{State, first_state}
use Rattle.xcap_server.specs.ReplayedRequests.{AcceptsRequests}
use Rattle.xcap_machine.specs.ServerStates.{ServerState}

-- no request is refused
abbrev pub RefusesNoRequest : ServerState → Request → Type 0
RefusesNoRequest server request = ⊥

-- The server has the contents that the machine of its root has after these requests: they
-- represent the one state that the requests lead to, and the remaining requests lead from it to
-- the last state.
pub record RepresentsRequests (server : ServerState) (done left : List Request)
    (last : State) : Type 0 where
  pub state : State
  pub stands : Represents server.content state
  pub led : AcceptsRequests server.root (first_state 1) done state
  pub only : (other : State) → AcceptsRequests server.root (first_state 1) done other → other
      ≡ state
  pub goes_on : AcceptsRequests server.root state left last
