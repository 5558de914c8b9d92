-- The result of accepted requests, repeated one after the other, and the requests for which a
-- server stands. RFC 4825, section 8.
use Rattle.std.specs.Prelude.{◌≡◌, ℕ, List, [], ◌∷◌, Some}
use Rattle.reply_text.specs.ReplyHeads.{SentReply}
use Rattle.http_wire.specs.declared.request.Request.{Request}
use Rattle.edit_ops.specs.declared.edit.Edit.{Edit}
use Rattle.store_core.specs.Contents.{Represents}
use Rattle.store_core.specs.ValidStates.{IsValidState}
use Rattle.store_core.specs.State.{State, first_state}
use Rattle.xcap_machine.specs.Answers.{reply_only}
use Rattle.xcap_machine.specs.Machine.{ValidStep}
use Rattle.xcap_machine.specs.Requests.{IsAnswer}
use Rattle.xcap_machine.specs.ServerStates.{ServerState}

-- from one state to the other, the machine of this root makes a change at each of the requests in
-- turn
abbrev pub AcceptsRequests : List ℕ → State → List Request → State → Type 0
AcceptsRequests root m [] n = n ≡ m
AcceptsRequests root m (request ∷ requests) n =
    (reply : SentReply) × (mid : State) × (edit : Edit)
    × ValidStep root m request reply mid (Some edit) × AcceptsRequests root mid requests n

-- The server's contents are the result of these requests, each of which makes a change, from the
-- state on that has no documents and the next number 1.
pub record ResultsFromRequests (server : ServerState) (requests : List Request) : Type 0 where
  pub state : State
  pub kept : IsValidState state
  pub redone : AcceptsRequests server.root (first_state 1) requests state
  pub stands : Represents server.content state

-- the request makes no change on the server's contents
abbrev pub RefusesRequest : ServerState → Request → Type 0
RefusesRequest server request =
    (reply : SentReply) × IsAnswer server.root server.content request (reply_only reply)
