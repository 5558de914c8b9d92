-- The snapshot with which a server begins again. RFC 4825, section 8.5, defines etags, which the
-- documents keep; the snapshot is the project's own.
use Rattle.std.specs.Prelude.{◌≡◌, ℕ, List}
use Rattle.store_core.specs.Contents.{Represents}
use Rattle.store_core.specs.State.{State}
use Rattle.store_core.specs.ValidStates.{IsValidState}
use Rattle.state_snapshots.specs.States.{AreOfState}
use Rattle.xcap_machine.specs.ServerStates.{ServerState}

-- The parts, and the next number, are those of a valid state without earlier versions, which the
-- server's contents represent.
pub record BeginsWith (parts : List (List ℕ)) (first : ℕ) (server : ServerState) : Type 0 where
  pub state : State
  pub kept : IsValidState state
  pub parts_of_state : AreOfState server.root parts state
  pub next : first ≡ state.next
  pub stands : Represents server.content state
