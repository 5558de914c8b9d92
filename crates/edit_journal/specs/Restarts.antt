-- What a restart does with the bytes of an old journal. This is the project's own.
use Rattle.std.specs.Prelude.{◌≡◌, ℕ, ◌+◌, ◌<◌, ◌≤◌, List, [], ◌∷◌, ◌++◌, length, take, All, false}
use Rattle.std.specs.Prelude.{Result, Ok, Err}
use Rattle.http_wire.specs.declared.request.Request.{Request}
use Rattle.xcap_io.specs.StreamStates.{StreamState, CountRises, DiffersByReads}
use Rattle.xcap_io.specs.StreamTraffic.{GivesBytes, IsEnded}
use Rattle.edit_journal.specs.declared.journal_restart.RestartFault.{RestartFault}
use Rattle.edit_journal.specs.declared.journal_restart.RestartFault.TheVariants.{ReadFailed}
use Rattle.edit_journal.specs.declared.journal_restart.RestartFault.TheVariants.{AppendFailed}
use Rattle.edit_journal.specs.declared.journal_restart.RestartFault.TheVariants.{Damaged, Refused}
use Rattle.edit_journal.specs.declared.journal_restart.RestartFault.TheVariants.{TooLong, NoMemory}
use Rattle.edit_journal.specs.declared.limits.TheConstants.{MAX_JOURNAL_BYTES}
use Rattle.edit_journal.specs.Records.{record_of}
use Rattle.edit_journal.specs.Journals.{JournalState, IsJournalProgress, AppendsPrefix}
use Rattle.edit_journal.specs.JournalLogs.{LogState}
use Rattle.edit_journal.specs.Replayers.{ReplaysRequests}
use Rattle.edit_journal.specs.JournalTexts.{journal_text, IsRecordedRequest, BeginsWithRecord}
use Rattle.edit_journal.specs.JournalTexts.{IsTorn, IsDamaged}
use Rattle.edit_journal.specs.JournalTexts.{HasNoRecord}

-- The counter of failed reads rose exactly at `ReadFailed`, and the journal's fault counter at
-- `AppendFailed`.
abbrev pub CountsFaults : ℕ → ℕ → ℕ → ℕ → Result LogState RestartFault → Type 0
CountsFaults reads reads' appends appends' (Err ReadFailed) =
    CountRises reads reads' × (appends' ≡ appends)
CountsFaults reads reads' appends appends' (Err AppendFailed) =
    (reads' ≡ reads) × CountRises appends appends'
CountsFaults reads reads' appends appends' result = (reads' ≡ reads) × (appends' ≡ appends)

-- what a restart reads, what it writes, and the states that it replays the requests on
pub record RestartState (S : Type 0) : Type 0 where
  pub source : StreamState
  pub journal : JournalState
  pub replayer : S

-- the bytes given; the requests whose records are at their front, up to the limit of an old
-- journal; and what is left of them up to there
pub record ReadRecords : Type 0 where
  pub bytes : List ℕ
  pub requests : List Request
  pub rest : List ℕ

-- S is the type of the states that the requests are replayed on.
module _ {S : Type 0} (stands : S → List Request → Type 0) (refuses : S → Request → Type 0) where
  -- How a restart ended in this state, after these requests.
  abbrev pub RestartEndsAs : RestartState S → ReadRecords → Result LogState RestartFault → Type 0
  -- all bytes were given, the rest is torn, and the journal has the records
  RestartEndsAs state read (Ok log) =
      IsEnded state.source.inward × (length read.bytes ≤ MAX_JOURNAL_BYTES)
      × HasNoRecord read.rest × IsTorn read.rest × (state.journal.held ≡ journal_text read.requests)
      × (log ≡ record { len = length (journal_text read.requests); is_torn = false })
  -- the rest of the bytes that were given is torn
  RestartEndsAs state read (Err ReadFailed) =
      (state.journal.held ≡ journal_text read.requests) × HasNoRecord read.rest × IsTorn read.rest
  -- after the other records comes a prefix of the last one
  RestartEndsAs state read (Err AppendFailed) =
      (before : List Request) × (last : Request)
      × (read.requests ≡ before ++ last ∷ [])
      × AppendsPrefix (journal_text before) state.journal.held (record_of last)
  -- from this offset on the bytes begin no record
  RestartEndsAs state read (Err (Damaged place)) =
      (state.journal.held ≡ journal_text read.requests) × IsDamaged read.rest
      × (place ≡ length (journal_text read.requests))
  -- the request of this number, counted from 1, is refused now
  RestartEndsAs state read (Err (Refused number)) =
      (state.journal.held ≡ journal_text read.requests)
      × ((request : Request) × (more : List ℕ)
      × BeginsWithRecord read.rest request more × refuses state.replayer request)
      × (number ≡ length read.requests + 1)
  -- more bytes were given than are read, and the rest of those read is torn
  RestartEndsAs state read (Err TooLong) =
      (state.journal.held ≡ journal_text read.requests) × (MAX_JOURNAL_BYTES < length read.bytes)
      × HasNoRecord read.rest × IsTorn read.rest
  RestartEndsAs state read (Err NoMemory) =
      (before more : List Request) × (read.requests ≡ before ++ more)
      × (state.journal.held ≡ journal_text before)

  -- What a restart did. The source gave `bytes`, of which the first ones, up to the limit, count.
  -- The requests are those whose records are at the front of these, in order; each was replayed,
  -- and none was refused.
  pub record RestartsReplayer (old new : RestartState S) (result : Result LogState RestartFault)
      : Type 0 where
    pub bytes : List ℕ
    pub requests : List Request
    pub rest : List ℕ
    pub given : GivesBytes old.source.inward new.source.inward bytes
    pub recorded : All IsRecordedRequest requests
    pub split : take MAX_JOURNAL_BYTES bytes ≡ journal_text requests ++ rest
    pub redone : ReplaysRequests stands refuses old.replayer requests new.replayer
    -- so the state represents each list that it represented before, with these requests at the end
    pub stood : (past : List Request) → stands old.replayer past
        → stands new.replayer (past ++ requests)
    pub ending : RestartEndsAs new (record { bytes = bytes; requests = requests; rest = rest })
        result
    pub reads : DiffersByReads old.source new.source
    pub goes : IsJournalProgress old.journal new.journal
    pub faults : CountsFaults old.source.read_faults new.source.read_faults old.journal.faults
        new.journal.faults result
