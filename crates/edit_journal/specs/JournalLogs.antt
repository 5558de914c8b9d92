-- What is known of a journal while records are added to it. This is the project's own.
use Rattle.std.specs.Prelude.{◌≡◌, ℕ, ◌+◌, ◌<◌, ◌≤◌, ◌⊎◌, Bool, true, false, List, [], ◌∷◌, ◌++◌}
use Rattle.std.specs.Prelude.{length, take, drop, All, Result, Ok, Err}
use Rattle.std.specs.Bool.{MatchBool}
use Rattle.http_wire.specs.declared.request.Request.{Request}
use Rattle.xcap_io.specs.StreamStates.{CountRises}
use Rattle.edit_journal.specs.declared.journal_log.AppendFault.{AppendFault}
use Rattle.edit_journal.specs.declared.journal_log.AppendFault.TheVariants.{Failed, NoMemory}
use Rattle.edit_journal.specs.Records.{record_of, recorded_request}
use Rattle.edit_journal.specs.JournalTexts.{IsRecordedRequest, journal_text}
use Rattle.edit_journal.specs.Journals.{JournalState, IsPrefixOf}

-- The length of the complete records of a journal, and whether a part of a record may come after
-- them.
pub record LogState : Type 0 where
  pub len : ℕ
  pub is_torn : Bool

-- a journal, and the log of what it has
pub record LoggedJournal : Type 0 where
  pub log : LogState
  pub journal : JournalState

-- The journal has as many bytes as the complete records, or more where the log is torn, which it
-- is only after a fault.
abbrev pub LogFitsJournal : LogState → JournalState → Type 0
LogFitsJournal log journal =
    MatchBool log.is_torn ((log.len ≤ length journal.held) × (0 < journal.faults))
    (length journal.held ≡ log.len)

-- The bytes are the records of the requests, which have the log's length; and after them, only
-- where the log is torn, a prefix of a record, or all of it.
pub record HoldsRecords (log : LogState) (requests : List Request) (bytes : List ℕ) : Type 0 where
  pub rest : List ℕ
  pub recorded : All IsRecordedRequest requests
  pub split : bytes ≡ journal_text requests ++ rest
  pub len : length (journal_text requests) ≡ log.len
  pub behind : MatchBool log.is_torn
      ((request : Request) × IsRecordedRequest request × IsPrefixOf rest (record_of request))
      (rest ≡ [])

-- the log with a record of these bytes added
abbrev pub log_with_record : LogState → List ℕ → LogState
log_with_record log bytes = record { len = log.len + length bytes; is_torn = false }

-- after the first `len` bytes comes a prefix of the record, or of what was there
abbrev pub KeepsCompleteRecords : ℕ → List ℕ → List ℕ → List ℕ → Type 0
KeepsCompleteRecords len bytes old new =
    (rest : List ℕ) × (new ≡ take len old ++ rest)
    × (IsPrefixOf rest bytes ⊎ IsPrefixOf rest (drop len old))

-- What adding a record did. At `Ok` it follows the complete ones, and nothing follows it. At
-- `Failed` the complete records are unchanged, the journal's fault counter rose, and the log is
-- torn. At `NoMemory` nothing has changed.
abbrev pub AddsRecord : LoggedJournal → List ℕ → Result (Unit {0}) AppendFault → LoggedJournal
    → Type 0
AddsRecord old bytes (Ok x) new =
    (new.log ≡ log_with_record old.log bytes)
    × (new.journal.held ≡ take old.log.len old.journal.held ++ bytes)
    × (new.journal.faults ≡ old.journal.faults)
AddsRecord old bytes (Err Failed) new =
    (new.log ≡ record old.log { is_torn = true })
    × KeepsCompleteRecords old.log.len bytes old.journal.held new.journal.held
    × CountRises old.journal.faults new.journal.faults
AddsRecord old bytes (Err NoMemory) new = (new.log ≡ old.log) × (new.journal ≡ old.journal)

-- the requests whose records are complete in a journal, after one more was to be added
abbrev pub with_request : Result (Unit {0}) AppendFault → List Request → Request → List Request
with_request (Ok x) requests request = requests ++ recorded_request request ∷ []
with_request (Err fault) requests request = requests
