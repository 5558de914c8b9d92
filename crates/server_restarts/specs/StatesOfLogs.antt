-- The state of the machine that the contents of a log lead to. RFC 4825, section 8, defines what
-- requests do, and section 8.5 etags, which the documents keep; the log is the project's own.
use Rattle.std.specs.Prelude.{◌≡◌, ℕ, ◌<◌, ◌≤◌, List, Option, IfSome}
use Rattle.std.specs.List.{AllByRecursion}
use Rattle.change_log.specs.LogContents.{Contents}
use Rattle.change_log.specs.LogHistories.{Moment}
use Rattle.edit_ops.specs.declared.edit.Edit.{Edit}
use Rattle.http_wire.specs.declared.request.Request.{Request}
use Rattle.logged_state.specs.DurableAnswers.{Call, DurableState}
use Rattle.logged_state.specs.Restarts.{ComesTo, IsKept, KeepsCalls, Survives}
use Rattle.state_snapshots.specs.States.{AreOfState}
use Rattle.store_core.specs.State.{State}
use Rattle.store_core.specs.ValidStates.{IsValidState}
use Rattle.xcap_machine.specs.Machine.{ValidStep}

-- a snapshot of these parts, with this number of the first change, is of this valid state
pub record BeginsAt (root : List ℕ) (parts : List (List ℕ)) (first : ℕ) (m : State) : Type 0 where
  pub valid : IsValidState m
  pub parts_of_state : AreOfState root parts m
  pub next : first ≡ m.next

-- The contents lead to this state: the snapshot is of a valid state, and from there on the machine
-- of the root makes a change on each of the requests whose records are the log's changes.
abbrev pub LeadsToState : List ℕ → Contents → State → Type 0
LeadsToState root found m = ComesTo (ValidStep root) (BeginsAt root) found m

-- they lead to this state, or to the one after the pending change, if there is one
abbrev pub LeadsToStateOrNext : List ℕ → State → Option Request → Contents → Type 0
LeadsToStateOrNext root m pending found =
    Survives (ValidStep root) (BeginsAt root) m pending found

-- The log keeps the state, with at most one pending change: that of a request that was answered by
-- the 500, since when nothing was changed.
abbrev pub KeepsState : List ℕ → State → Option Request → Moment → Type 0
KeepsState root m pending now = IsKept (ValidStep root) (BeginsAt root) m pending now

-- the calls were answered one after the other, and the log survived each moment of each
abbrev pub SurvivesCalls : List ℕ → DurableState State → Option Request → List (Call Edit)
    → DurableState State → Option Request → Type 0
SurvivesCalls root old pending calls new last =
    KeepsCalls (ValidStep root) (BeginsAt root) old pending calls new last

-- the number of each change that was made by the calls is at least the one, and below the other
abbrev pub AreToldBetween : ℕ → List (Call Edit) → ℕ → Type 0
AreToldBetween low calls high =
    AllByRecursion
    (λ call. IfSome call.edit (λ edit. (low ≤ edit.note.next) × (edit.note.next < high))) calls
