-- How a log adds a record in two steps: it cuts off what may come after the complete records, and
-- then appends.
use Rattle.std.specs.Prelude.{◌≡◌, true, false, List, ℕ, ◌++◌, take}
use Rattle.xcap_io.specs.StreamStates.{CountRises}
use Rattle.edit_journal.specs.Journals.{JournalState}
use Rattle.edit_journal.specs.JournalLogs.{LogState, log_with_record, KeepsCompleteRecords}

-- what came after the complete records was cut off
abbrev pub RepairsLog : LogState → JournalState → LogState → JournalState → Type 0
RepairsLog log journal log' journal' =
    (log' ≡ record log { is_torn = false }) × (journal'.held ≡ take log.len journal.held)
    × (journal'.faults ≡ journal.faults)

-- the bytes follow the complete records, after which nothing came
abbrev pub AppendsToLog : LogState → JournalState → List ℕ → LogState → JournalState → Type 0
AppendsToLog log journal bytes log' journal' =
    (log' ≡ log_with_record log bytes) × (journal'.held ≡ journal.held ++ bytes)
    × (journal'.faults ≡ journal.faults)

-- the complete records are unchanged; the journal failed, and the log is torn
abbrev pub FailsToAppend : LogState → JournalState → List ℕ → LogState → JournalState → Type 0
FailsToAppend log journal bytes log' journal' =
    (log' ≡ record log { is_torn = true })
    × KeepsCompleteRecords log.len bytes journal.held journal'.held
    × CountRises journal.faults journal'.faults
