-- What a log keeps of a server that writes snapshots while it serves: the present documents, each
-- with its etag, and the next number. A snapshot has no earlier versions (RFC 4825, section 8.5,
-- defines etags; snapshots are the project's own).
use Rattle.std.specs.Prelude.{ℕ, List, Option}
use Rattle.change_log.specs.LogContents.{Contents}
use Rattle.change_log.specs.LogHistories.{Moment}
use Rattle.edit_ops.specs.declared.edit.Edit.{Edit}
use Rattle.http_wire.specs.declared.request.Request.{Request}
use Rattle.logged_state.specs.DurableAnswers.{Call, DurableState}
use Rattle.logged_state.specs.Restarts.{ComesTo, IsKept, KeepsCalls, Survives}
use Rattle.server_restarts.specs.StatesOfLogs.{BeginsAt, LeadsToState}
use Rattle.store_core.specs.Contents.{HasDocumentsOf, contents_of}
use Rattle.store_core.specs.State.{State}
use Rattle.store_core.specs.ValidStates.{IsValidState}
use Rattle.xcap_machine.specs.Machine.{ValidStep}

-- A snapshot of these parts, with this number of the first change, is of a state that has the
-- documents of this one.
pub record BeginsWithDocuments (root : List ℕ) (parts : List (List ℕ)) (first : ℕ)
    (m : State) : Type 0 where
  pub valid : IsValidState m
  pub snapshot : State
  pub begins : BeginsAt root parts first snapshot
  pub has : HasDocumentsOf (contents_of m) snapshot

-- The contents lead to the documents of this state: the snapshot is of the documents of a valid
-- state, from which on the machine of the root makes a change on each of the requests whose
-- records are the log's changes.
abbrev pub LeadsToDocuments : List ℕ → Contents → State → Type 0
LeadsToDocuments root found m = ComesTo (ValidStep root) (BeginsWithDocuments root) found m

-- they lead to its documents, or to those of the state after the pending change, if there is one
abbrev pub LeadsToDocumentsOrNext : List ℕ → State → Option Request → Contents → Type 0
LeadsToDocumentsOrNext root m pending found =
    Survives (ValidStep root) (BeginsWithDocuments root) m pending found

-- The log keeps the documents of the state, with at most one pending change: that of a request
-- that was answered by the 500, since when nothing was changed.
abbrev pub KeepsDocuments : List ℕ → State → Option Request → Moment → Type 0
KeepsDocuments root m pending now =
    IsKept (ValidStep root) (BeginsWithDocuments root) m pending now

-- the calls were answered one after the other, and the log kept the documents at each moment of
-- each
abbrev pub KeepsDocumentsInCalls : List ℕ → DurableState State → Option Request
    → List (Call Edit) → DurableState State → Option Request → Type 0
KeepsDocumentsInCalls root old pending calls new last =
    KeepsCalls (ValidStep root) (BeginsWithDocuments root) old pending calls new last

-- The contents lead to a state with the documents of this one.
pub record LeadsToSameDocuments (root : List ℕ) (found : Contents) (m : State) : Type 0 where
  pub state : State
  pub leads : LeadsToState root found state
  pub has : HasDocumentsOf (contents_of m) state
