-- What the command `keep` writes as its new journal. The journal is the project's own.
use Rattle.std.specs.Prelude.{ℕ, List, All}
use Rattle.edit_ops.specs.declared.edit.Edit.{Edit}
use Rattle.http_wire.specs.declared.request.Request.{Request}
use Rattle.xcap_io.specs.StreamStates.{CountRises}
use Rattle.xcap_io.specs.StreamTraffic.{TakesBytes}
use Rattle.edit_journal.specs.JournalPrefixes.{IsJournalPrefix}
use Rattle.edit_journal.specs.Journals.{IsPrefixOf}
use Rattle.edit_journal.specs.JournalTexts.{IsRecordedRequest, journal_text}
use Rattle.store_core.specs.State.{State, first_state}
use Rattle.xcap_app.specs.KeepCommand.{KeepSummary, OldJournal, ServesLoggedConnections}
use Rattle.xcap_app.specs.RunStates.{KeepState, keep_service_state}
use Rattle.xcap_app.specs.ServeCommand.{ServiceArguments}
use Rattle.xcap_server.specs.ReplayedRequests.{AcceptsRequests}

-- The bytes are first bytes of the records of these requests, at each of which the machine of the
-- root makes a change, from the state without documents whose next number is 1 to the last state.
pub record IsWrittenJournal (root bytes : List ℕ) (all : List Request) (last : State) : Type 0 where
  pub recorded : All IsRecordedRequest all
  pub redone : AcceptsRequests root (first_state 1) all last
  pub begins : IsPrefixOf bytes (journal_text all)

-- The requests whose records are whole in the old journal are the first of these, and led to its
-- state; the others are left, and lead from it to the last state.
pub record RestartsFromJournal (root : List ℕ) (journal : OldJournal) (all : List Request)
    (last : State) : Type 0 where
  pub left : List Request
  pub whole : IsJournalPrefix all journal.bytes journal.requests left journal.rest
  pub goes_on : AcceptsRequests root journal.state left last

-- After this old journal a run of `keep` served the connections that came, and the new journal is
-- what its output took. `Keeps` relates watchers before and after such changes.
abbrev pub ServesAfterJournal : {W : Type 0} → (List Edit → W → W → Type 0) → ServiceArguments
    → KeepSummary → OldJournal → KeepState W → KeepState W → Type 0
ServesAfterJournal Keeps arguments kept journal old new =
    ServesLoggedConnections Keeps (TakesBytes old.output.taken new.output.taken)
    (CountRises old.output.write_faults new.output.write_faults) arguments kept journal
    (keep_service_state old) (keep_service_state new)
