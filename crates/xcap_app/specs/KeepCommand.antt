-- What `keep` does, by how it ends. The machine follows RFC 4825; the command and its
-- journal are the project's own.
use Rattle.std.specs.Prelude.{◌≡◌, ℕ, ◌+◌, ◌<◌, ◌≤◌, ◌⊎◌, List, [], ◌∷◌, ◌++◌, length, take, All}
use Rattle.edit_ops.specs.declared.edit.Edit.{Edit}
use Rattle.reply_text.specs.ReplyHeads.{SentReply}
use Rattle.http_wire.specs.declared.request.Request.{Request}
use Rattle.xcap_io.specs.StreamStates.{StreamState, DiffersByReads, CountRises}
use Rattle.xcap_io.specs.Connections.{ListenFailed, with_listening_address}
use Rattle.xcap_io.specs.StreamTraffic.{GivesBytes, IsEnded, TakesBytes}
use Rattle.edit_journal.specs.Journals.{AppendsPrefix, IsPrefixOf}
use Rattle.edit_journal.specs.Records.{IsRecordable, record_of}
use Rattle.edit_journal.specs.declared.limits.TheConstants.{MAX_JOURNAL_BYTES}
use Rattle.edit_journal.specs.JournalTexts.{BeginsWithRecord, HasNoRecord, IsDamaged}
use Rattle.edit_journal.specs.JournalTexts.{IsRecordedRequest, IsTorn}
use Rattle.edit_journal.specs.JournalTexts.{HasCompleteRecords, journal_text}
use Rattle.edit_journal.specs.declared.journal_restart.RestartFault.{RestartFault}
use Rattle.edit_journal.specs.declared.journal_restart.RestartFault.TheVariants as faults
use Rattle.http_serve.specs.ServedPorts.{ServesPort}
use Rattle.http_serve.specs.ReplyBytes.{StepsInBytes}
use Rattle.http_serve.specs.declared.accept_loop.ServeSummary.{ServeSummary}
use Rattle.http_serve.specs.declared.accept_loop.StopReason.TheVariants.{PortFailed}
use Rattle.edit_journal.specs.LoggedMachines.{LoggedStep}
use Rattle.edit_journal.specs.LoggedRequests.{AcceptsRequest}
use Rattle.store_core.specs.Contents.{contents_of}
use Rattle.store_core.specs.ValidStates.{IsValidState}
use Rattle.store_core.specs.State.{State, first_state}
use Rattle.xcap_machine.specs.Answers.{reply_only}
use Rattle.xcap_machine.specs.Requests.{IsAnswer}
use Rattle.xcap_machine.specs.Machine.{ValidStep}
use Rattle.xcap_server.specs.ReplayedRequests.{AcceptsRequests}
use Rattle.xcap_app.specs.StreamFrames.{WritesOnly}
use Rattle.xcap_app.specs.RunStates.{IoStreams, KeepState, ServiceState, keep_journals}
use Rattle.xcap_app.specs.RunStates.{keep_service_state}
use Rattle.xcap_app.specs.ServeCommand.{IsCompleteStop, ServiceArguments}
use Rattle.xcap_app.specs.ErrorMessages.{IsReportedAs}
use Rattle.xcap_app.specs.declared.exit.Exit.{Exit}
use Rattle.xcap_app.specs.declared.exit.Exit.TheVariants.{Done, InputFailed, OutputFailed}
use Rattle.xcap_app.specs.declared.exit.Exit.TheVariants.{NetworkFailed, BadJournal, OutOfMemory}
use Rattle.xcap_app.specs.declared.journal_refusal.JournalRefusal.TheVariants as refusals

-- how the command ends when it couldn't read its old journal
abbrev pub exit_of_restart : RestartFault → Exit
exit_of_restart faults.ReadFailed = InputFailed
exit_of_restart faults.AppendFailed = OutputFailed
exit_of_restart (faults.Damaged place) = BadJournal (refusals.Damaged place)
exit_of_restart (faults.Refused number) = BadJournal (refusals.Refused number)
exit_of_restart faults.TooLong = BadJournal refusals.TooLong
exit_of_restart faults.NoMemory = OutOfMemory

-- What was read of an old journal: its bytes, the requests whose records begin it, the rest after
-- these records, and the state that the requests lead to.
pub record OldJournal : Type 0 where
  pub bytes : List ℕ
  pub requests : List Request
  pub rest : List ℕ
  pub state : State

-- The input gave the bytes, of which the first `MAX_JOURNAL_BYTES` are the records of the requests,
-- and the rest. From the state without documents whose next number is 1 on, the machine of this
-- root makes a change at each of the requests, which lead to the state.
pub record ReadsRecords (root : List ℕ) (journal : OldJournal)
    (input input' : StreamState) : Type 0 where
  pub given : GivesBytes input.inward input'.inward journal.bytes
  pub recorded : All IsRecordedRequest journal.requests
  pub split : take MAX_JOURNAL_BYTES journal.bytes ≡ journal_text journal.requests ++ journal.rest
  pub redone : AcceptsRequests root (first_state 1) journal.requests journal.state
  pub kept : IsValidState journal.state
  pub reads : DiffersByReads input input'

-- All of the old journal was read. The requests are those whose records are whole in it, and its
-- rest is torn.
pub record ReadsJournal (root : List ℕ) (journal : OldJournal)
    (input input' : StreamState) : Type 0 where
  pub records : ReadsRecords root journal input input'
  pub short : length journal.bytes ≤ MAX_JOURNAL_BYTES
  pub ended : IsEnded input'.inward
  pub whole : HasCompleteRecords journal.bytes journal.requests journal.rest
  pub torn : IsTorn journal.rest
  pub no_fault : input'.read_faults ≡ input.read_faults

-- Why reading the old journal stopped after these requests, and what the output took of their
-- records: all of them, except where the output failed or memory ran out.
abbrev pub StopsReading : List ℕ → RestartFault → OldJournal → IoStreams → IoStreams → Type 0
StopsReading root faults.ReadFailed journal old new =
    TakesBytes old.output.taken new.output.taken (journal_text journal.requests)
    × HasNoRecord journal.rest × IsTorn journal.rest
    × CountRises old.input.read_faults new.input.read_faults
StopsReading root faults.AppendFailed journal old new =
    ((before : List Request) × (last : Request) × (journal.requests ≡ before ++ last ∷ [])
    × AppendsPrefix (old.output.taken ++ journal_text before) new.output.taken (record_of last))
    × CountRises old.output.write_faults new.output.write_faults
StopsReading root (faults.Damaged place) journal old new =
    TakesBytes old.output.taken new.output.taken (journal_text journal.requests)
    × IsDamaged journal.rest × (place ≡ length (journal_text journal.requests))
StopsReading root (faults.Refused number) journal old new =
    TakesBytes old.output.taken new.output.taken (journal_text journal.requests)
    × (number ≡ length journal.requests + 1)
    × ((request : Request) × (more : List ℕ) × (reply : SentReply)
    × BeginsWithRecord journal.rest request more
    × IsAnswer root (contents_of journal.state) request (reply_only reply))
StopsReading root faults.TooLong journal old new =
    TakesBytes old.output.taken new.output.taken (journal_text journal.requests)
    × (MAX_JOURNAL_BYTES < length journal.bytes) × HasNoRecord journal.rest × IsTorn journal.rest
StopsReading root faults.NoMemory journal old new =
    (before more : List Request) × (journal.requests ≡ before ++ more)
    × TakesBytes old.output.taken new.output.taken (journal_text before)

-- the old journal wasn't read to its end
pub record FailsToReadJournal (root : List ℕ) (fault : RestartFault)
    (old new : IoStreams) : Type 0 where
  pub journal : OldJournal
  pub records : ReadsRecords root journal old.input new.input
  pub stops : StopsReading root fault journal old new
  pub just_written : WritesOnly old.output new.output

-- How connections were served, the first bytes of a record that was begun but not completed in the
-- new journal, and how many requests got the 500 since their record couldn't be written.
pub record KeepSummary : Type 0 where
  pub served : ServeSummary
  pub rest : List ℕ
  pub failures : ℕ

-- where all records were written
abbrev pub summary_without_failures : ServeSummary → KeepSummary
summary_without_failures served = record { served = served; rest = []; failures = 0 }

-- W is the type of the watchers, and `Keeps` relates them before and after such changes.
-- `IsWritten` says that these bytes were written to the new journal, and `HasFailed` that writing
-- failed.
module _ {W : Type 0} (Keeps : List Edit → W → W → Type 0)
    (IsWritten : List ℕ → Type 0) (HasFailed : Type 0) where
  -- From the state on to which the requests of the old journal led, the machine of this root
  -- answered on the connections that came, at most `count`, except for requests whose record
  -- couldn't be written, which get the 500. All accepted requests lead to the last state. Their
  -- records were written, and after them at most some first bytes of the record of a request that
  -- would be accepted now.
  pub record ServesLoggedConnections (arguments : ServiceArguments) (kept : KeepSummary)
      (journal : OldJournal) (old new : ServiceState W) : Type 0 where
    pub accepted : List Request
    pub next : State
    pub valid : IsValidState next
    pub serves : ServesPort (StepsInBytes (LoggedStep (ValidStep arguments.root))) Keeps
        (record { most = arguments.count; served = kept.served })
        (record {
          machine = record {
            machine = journal.state;
            requests = journal.requests;
            failures = 0;
          };
          stream = with_listening_address old.port arguments.address;
          watchers = old.watchers;
        })
        (record {
          machine = record { machine = next; requests = accepted; failures = kept.failures };
          stream = new.port;
          watchers = new.watchers;
        })
    pub redone : AcceptsRequests arguments.root (first_state 1) accepted next
    pub recorded : All IsRecordedRequest accepted
    pub written : IsWritten (journal_text accepted ++ kept.rest)
    pub behind : (kept.rest ≡ [])
        ⊎ ((request : Request) × IsRecordable request
        × AcceptsRequest (ValidStep arguments.root) next request
        × IsPrefixOf kept.rest (record_of request))

  -- After the old journal: all connections were served, and all records written; or writing
  -- failed; or the port didn't listen, or failed to begin a connection.
  abbrev pub EndsKeep : ServiceArguments → Exit → OldJournal
      → ServiceState W → ServiceState W → Type 0
  EndsKeep arguments Done journal old new =
      (served : ServeSummary)
      × ServesLoggedConnections arguments (summary_without_failures served) journal old new
      × IsCompleteStop served.stop
  EndsKeep arguments OutputFailed journal old new =
      (kept : KeepSummary) × ServesLoggedConnections arguments kept journal old new × HasFailed
  EndsKeep arguments NetworkFailed journal old new =
      (ListenFailed old.port new.port × IsWritten (journal_text journal.requests)
      × (new.watchers ≡ old.watchers))
      ⊎ ((served : ServeSummary)
      × ServesLoggedConnections arguments (summary_without_failures served) journal old new
      × (served.stop ≡ PortFailed))
  EndsKeep arguments _ journal old new = ⊥

-- Memory ran out before anything was done; or the old journal wasn't read to its end, and no more
-- was done; or it was, and the connections that came were served. The new journal is what the
-- output took.
pub data KeepsCommand {W : Type 0} (Keeps : List Edit → W → W → Type 0)
    (arguments : ServiceArguments) (exit : Exit) (old new : KeepState W) : Type 0 where
  no_server : exit ≡ OutOfMemory → new ≡ old → KeepsCommand Keeps arguments exit old new
  no_journal : (fault : RestartFault) → IsReportedAs (exit_of_restart fault) exit
      → FailsToReadJournal arguments.root fault (keep_journals old) (keep_journals new)
      → new.port ≡ old.port → new.watchers ≡ old.watchers
      → KeepsCommand Keeps arguments exit old new
  keeps_on : (journal : OldJournal) → ReadsJournal arguments.root journal old.input new.input
      → WritesOnly old.output new.output
      → EndsKeep Keeps (TakesBytes old.output.taken new.output.taken)
      (CountRises old.output.write_faults new.output.write_faults)
      arguments exit journal (keep_service_state old) (keep_service_state new)
      → KeepsCommand Keeps arguments exit old new
