-- How the records in the read buffer are replayed, from any state on.
use Rattle.std.specs.Prelude.{◌≡◌, ℕ, ◌+◌, List, [], ◌∷◌, ◌++◌, length, All, Result, Ok, Err}
use Rattle.http_wire.specs.declared.request.Request.{Request}
use Rattle.xcap_io.specs.StreamStates.{CountRises}
use Rattle.edit_journal.specs.declared.journal_log.AppendFault.{AppendFault}
use Rattle.edit_journal.specs.declared.journal_restart.RestartFault.{RestartFault}
use Rattle.edit_journal.specs.declared.journal_restart.RestartFault.TheVariants.{AppendFailed}
use Rattle.edit_journal.specs.declared.journal_restart.RestartFault.TheVariants.{Damaged, Refused}
use Rattle.edit_journal.specs.declared.journal_restart.RestartFault.TheVariants.{NoMemory}
use Rattle.edit_journal.specs.Records.{record_of}
use Rattle.edit_journal.specs.Journals.{JournalState, IsJournalProgress, AppendsPrefix}
use Rattle.edit_journal.specs.JournalLogs.{LogState, log_with_record}
use Rattle.edit_journal.specs.Replayers.{ReplaysRequests}
use Rattle.edit_journal.specs.JournalTexts.{journal_text, IsRecordedRequest, BeginsWithRecord}
use Rattle.edit_journal.specs.JournalTexts.{IsDamaged}

-- How far a restart has come: the state that requests are replayed on, the new journal with its
-- log, and how many requests were replayed.
pub record ReplayProgress (S : Type 0) : Type 0 where
  pub replayer : S
  pub journal : JournalState
  pub log : LogState
  pub count : ℕ

module _ {S : Type 0} (stands : S → List Request → Type 0) (refuses : S → Request → Type 0) where
  -- the requests were replayed in order, their records added, and they were counted
  pub record AdvancesReplay (old new : ReplayProgress S) (requests : List Request) : Type 0 where
    pub recorded : All IsRecordedRequest requests
    pub redone : ReplaysRequests stands refuses old.replayer requests new.replayer
    pub held : new.journal.held ≡ old.journal.held ++ journal_text requests
    pub added : new.log ≡ log_with_record old.log (journal_text requests)
    pub counted : new.count ≡ old.count + length requests
    pub goes : IsJournalProgress old.journal new.journal
    pub no_fault : new.journal.faults ≡ old.journal.faults

  -- how it stopped after these requests, with the rest of the bytes left
  abbrev pub ReplayStopsAs : ReplayProgress S → ReplayProgress S → List Request → List ℕ
      → RestartFault → Type 0
  ReplayStopsAs old new requests rest AppendFailed =
      ((before : List Request) × (last : Request)
      × (requests ≡ before ++ last ∷ [])
      × AppendsPrefix (old.journal.held ++ journal_text before) new.journal.held (record_of last))
      × CountRises old.journal.faults new.journal.faults
  ReplayStopsAs old new requests rest (Damaged place) =
      (new.journal.held ≡ old.journal.held ++ journal_text requests) × IsDamaged rest
      × (place ≡ old.log.len + length (journal_text requests))
      × (new.journal.faults ≡ old.journal.faults)
  ReplayStopsAs old new requests rest (Refused number) =
      (new.journal.held ≡ old.journal.held ++ journal_text requests)
      × ((request : Request) × (more : List ℕ)
      × BeginsWithRecord rest request more × refuses new.replayer request)
      × (number ≡ old.count + length requests + 1) × (new.journal.faults ≡ old.journal.faults)
  ReplayStopsAs old new requests rest NoMemory =
      ((before more : List Request) × (requests ≡ before ++ more)
      × (new.journal.held ≡ old.journal.held ++ journal_text before))
      × (new.journal.faults ≡ old.journal.faults)
  ReplayStopsAs old new requests rest other = ⊥

  -- where it stopped; nothing is said of the log and the count then
  pub record StopsReplay (old new : ReplayProgress S) (bytes : List ℕ) (fault : RestartFault)
      : Type 0 where
    pub requests : List Request
    pub rest : List ℕ
    pub recorded : All IsRecordedRequest requests
    pub split : bytes ≡ journal_text requests ++ rest
    pub redone : ReplaysRequests stands refuses old.replayer requests new.replayer
    pub ending : ReplayStopsAs old new requests rest fault
    pub goes : IsJournalProgress old.journal new.journal

  -- what replaying the records at the front of some bytes did, which leaves the rest of them
  abbrev pub ReplaysBufferedRecords : ReplayProgress S → ReplayProgress S → List ℕ → List ℕ
      → Result (Unit {0}) RestartFault → Type 0
  ReplaysBufferedRecords old new bytes rest (Ok x) =
      (requests : List Request) × (bytes ≡ journal_text requests ++ rest)
      × AdvancesReplay old new requests
  ReplaysBufferedRecords old new bytes rest (Err fault) = StopsReplay old new bytes fault

-- what a restart returns where a record couldn't be added
abbrev pub restart_fault_of : AppendFault → RestartFault
restart_fault_of AppendFault.Failed = AppendFailed
restart_fault_of AppendFault.NoMemory = NoMemory
