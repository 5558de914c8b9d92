-- Connections of a port, served by a machine whose accepted requests are logged. This is the
-- project's own.
use Rattle.std.specs.Prelude.{ℕ, ◌+◌, ◌*◌, ◌≤◌, List, Option}
use Rattle.reply_text.specs.ReplyHeads.{SentReply}
use Rattle.http_wire.specs.declared.request.Request.{Request}
use Rattle.xcap_io.specs.StreamStates.{CountRisesBy}
use Rattle.xml_names.specs.Limits.{u64_max}
use Rattle.edit_journal.specs.declared.limits.TheConstants.{MAX_RECORD_BYTES}
use Rattle.edit_journal.specs.JournalLogs.{LogState}
use Rattle.http_serve.specs.ServedPorts.{ServeOutcome, ServesPort}
use Rattle.http_serve.specs.ReplyBytes.{StepsInBytes}
use Rattle.http_serve.specs.ServingStates.{ServingState}
use Rattle.edit_journal.specs.LoggedRequests.{AcceptsRequest, JournaledState}
use Rattle.edit_journal.specs.LoggedMachines.{HoldsLog, LoggedStep}

-- n records of any length fit the log, whose length has 64 bits
abbrev pub HasRoomForRecords : LogState → ℕ → Type 0
HasRoomForRecords log records = log.len + records * MAX_RECORD_BYTES ≤ u64_max

module _ {M W E : Type 0} (Step : M → Request → SentReply → M → Option E → Type 0) where
  -- At most the wanted number of connections was served, by a machine that had accepted these
  -- requests before. `Keeps` relates watchers before and after such edits. Afterwards the journal
  -- has the records of all accepted requests, and no more requests got the 500 for lack of a record
  -- than its fault counter rose by, unless the counter is at its greatest value.
  pub record ServesLogged (Keeps : List E → W → W → Type 0) (outcome : ServeOutcome)
      (requests : List Request) (old new : ServingState (JournaledState M) W) : Type 0 where
    pub accepted : List Request
    pub failures : ℕ
    pub serves : ServesPort (StepsInBytes (LoggedStep Step)) Keeps outcome
        (record {
          machine = record { machine = old.machine.machine; requests = requests; failures = 0 };
          stream = old.stream;
          watchers = old.watchers;
        })
        (record {
          machine = record {
            machine = new.machine.machine;
            requests = accepted;
            failures = failures;
          };
          stream = new.stream;
          watchers = new.watchers;
        })
    pub holds : HoldsLog (AcceptsRequest Step new.machine.machine) new.machine.log accepted
        new.machine.journal.held
    pub bound : CountRisesBy failures old.machine.journal.faults new.machine.journal.faults
