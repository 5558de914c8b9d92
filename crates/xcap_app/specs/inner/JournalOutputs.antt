-- What is known of an output over which a journal was made.
use Rattle.std.specs.Prelude.{◌≡◌, ◌<◌, ◌++◌}
use Rattle.xcap_io.specs.StreamStates.{StreamState, CountRises}
use Rattle.edit_journal.specs.Journals.{JournalState}
use Rattle.xcap_app.specs.StreamFrames.{WritesOnly}

-- Since the journal was made over this output, only the journal's calls used it.
pub record UsesOnlyJournal (output output' : StreamState) (journal' : JournalState) : Type 0 where
  pub taken : output'.taken ≡ output.taken ++ journal'.held
  pub just_written : WritesOnly output output'
  pub cause : 0 < journal'.faults → CountRises output.write_faults output'.write_faults
