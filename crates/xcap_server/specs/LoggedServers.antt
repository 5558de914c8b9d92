-- What a server does whose accepted requests are logged. RFC 4825, section 8; the log is the
-- project's own.
use Rattle.std.specs.Prelude.{◌≡◌, List, ◌++◌, Result, Ok, Err}
use Rattle.http_wire.specs.declared.request.Request.{Request}
use Rattle.edit_ops.specs.declared.edit.Edit.{Edit}
use Rattle.edit_journal.specs.Journals.{JournalState}
use Rattle.edit_journal.specs.JournalLogs.{LogState}
use Rattle.http_serve.specs.declared.machine.MachineReply.{MachineReply}
use Rattle.http_serve.specs.ServedPorts.{ServeOutcome}
use Rattle.http_serve.specs.ServingStates.{ServingState}
use Rattle.edit_journal.specs.LoggedMachines.{LoggedMachineState, HoldsLog, accepted_requests}
use Rattle.edit_journal.specs.LoggedRequests.{AcceptsRequest, AnswersWithJournal, JournaledState}
use Rattle.edit_journal.specs.LoggedPorts.{ServesLogged}
use Rattle.store_core.specs.Contents.{Represents}
use Rattle.store_core.specs.ValidStates.{IsValidState}
use Rattle.store_core.specs.State.{State}
use Rattle.xcap_machine.specs.Machine.{ValidStep}
use Rattle.xcap_server.specs.ReplayedRequests.{AcceptsRequests, ResultsFromRequests}
use Rattle.xcap_machine.specs.ServerStates.{ServerState}

-- A request was answered as the machine of the root answers it from this state on, except for a
-- request that couldn't be added to the log; and the server's contents represent the next state.
pub record AnswersLogged (m : State) (old new : JournaledState ServerState) (request : Request)
    (a : MachineReply Edit) : Type 0 where
  pub next : State
  pub kept : IsValidState next
  pub stands : Represents new.machine.content next
  pub answers : AnswersWithJournal (ValidStep old.machine.root)
      (record { machine = m; log = old.log; journal = old.journal }) request a.reply
      (record { machine = next; log = new.log; journal = new.journal }) a.edit

-- The journal has the records of these requests, for which the server stands, as they led to its
-- state.
pub record LogsRequests (server : ServerState) (log : LogState) (journal : JournalState)
    (requests : List Request) : Type 0 where
  pub stands : ResultsFromRequests server requests
  pub holds : HoldsLog (AcceptsRequest (ValidStep server.root) stands.state) log requests
      journal.held

-- the accepted requests, with this one where it made a change
abbrev pub with_accepted_request : {E : Type 0} → Result (MachineReply Edit) E → List Request
    → Request
    → List Request
with_accepted_request (Ok a) requests request = requests ++ accepted_requests request a.edit
with_accepted_request (Err e) requests request = requests

-- The connections of a port were served as by the machine of the root that starts so: from its
-- state on, and with the requests that it had accepted before, except for requests that couldn't be
-- added to the log; and the server's contents represent the next state.
pub record ServesPortLogged {W : Type 0} (Keeps : List Edit → W → W → Type 0)
    (outcome : ServeOutcome) (start : LoggedMachineState State)
    (old new : ServingState (JournaledState ServerState) W) : Type 0 where
  pub next : State
  pub kept : IsValidState next
  pub stands : Represents new.machine.machine.content next
  pub same_root : new.machine.machine.root ≡ old.machine.machine.root
  pub serves : ServesLogged (ValidStep old.machine.machine.root) Keeps outcome start.requests
      (record {
        machine = record {
          machine = start.machine;
          log = old.machine.log;
          journal = old.machine.journal;
        };
        stream = old.stream;
        watchers = old.watchers;
      })
      (record {
        machine = record { machine = next; log = new.machine.log; journal = new.machine.journal };
        stream = new.stream;
        watchers = new.watchers;
      })
  pub redone : (origin : State)
      → AcceptsRequests old.machine.machine.root origin start.requests start.machine
      → AcceptsRequests old.machine.machine.root origin serves.accepted next
