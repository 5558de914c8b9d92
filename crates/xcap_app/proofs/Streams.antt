-- A journal over a stream has the bytes that the stream took since it was made.
use Rattle.std.proofs.Common.{◌≡◌, ℕ, ◌-◌, ◌<◌, inl, inr, List, ◌∷◌, ◌++◌, length, sym, ap, subst, ◌∙◌, arith, append_assoc, take-append-drop}
use Rattle.std.specs.Borrow.{GName}
use Rattle.xcap_io.specs.StreamStates.{HiddenState, StreamState, CountRises}
use Rattle.xcap_io.specs.StreamPairs.{output_hidden_state}
use Rattle.edit_journal.specs.Journals.{AppendsPrefix, IsJournalProgress, JournalState}
use Rattle.edit_journal.specs.StreamJournals.{stream_journal_state}
use Rattle.xcap_io.specs.StreamTraffic.{TakesBytes}
use Rattle.xcap_app.specs.inner.JournalOutputs.{UsesOnlyJournal}

rose_by : (old new : JournalState) → old.faults ≡ 0 → IsJournalProgress old new → 0 < new.faults → CountRises old.beneath new.beneath
rose_by old new none goes some = elim (goes.cause none) [ inl zero ↦ absurd (omega (arith, zero, some)) | inr rose ↦ rose ]

pub streams : (output output' : StreamState) (name name' : GName) (made : JournalState) (len' faults' : ℕ) → made ≡ stream_journal_state output name 0 0 → made.before ≡ output.taken → IsJournalProgress made (stream_journal_state output' name' len' faults') → UsesOnlyJournal output output' (stream_journal_state output' name' len' faults')
streams output output' name name' made len' faults' is behind goes =
    let new : JournalState = stream_journal_state output' name' len' faults' in
    let parts : new.before ++ new.held ≡ output'.taken = take-append-drop (length output'.taken - len') output'.taken in
    let first : new.before ≡ output.taken = goes.same_before ∙ behind in
    let aside : output_hidden_state output' ∷ output'.aside ≡ output_hidden_state output ∷ output.aside = goes.same_aside ∙ ap (λ (j : JournalState). j.aside) is in
    let holds : name' ∷ output'.holds ≡ name ∷ output.holds = goes.same_holds ∙ ap (λ (j : JournalState). j.holds) is in
    let same : output_hidden_state output' ≡ output_hidden_state output = cc in
    record {
      taken = sym parts ∙ ap (λ (l : List ℕ). l ++ new.held) first;
      just_written = record {
        same_inward = ap (λ (a : HiddenState). a.inward) same;
        same_read_faults = ap (λ (a : HiddenState). a.faults) same;
        same_holds = cc;
        same_aside = cc;
        same_port = ap (λ (a : HiddenState). a.port) same;
        same_peer = ap (λ (a : HiddenState). a.peer) same;
      };
      cause = λ some. subst (λ (n : ℕ). CountRises n output'.write_faults) (ap (λ (j : JournalState). j.beneath) is) (rose_by made new (ap (λ (j : JournalState). j.faults) is) goes some);
    }

-- the journal's bytes were written
pub wrote : (output output' : StreamState) (journal' : JournalState) (bytes : List ℕ) → UsesOnlyJournal output output' journal' → journal'.held ≡ bytes → TakesBytes output.taken output'.taken bytes
wrote output output' journal' bytes s held = s.taken ∙ ap (λ (l : List ℕ). output.taken ++ l) held

-- a part of a record, after others
pub adds_some : (output output' : StreamState) (journal' : JournalState) (before record_bytes : List ℕ) → UsesOnlyJournal output output' journal' → AppendsPrefix before journal'.held record_bytes → AppendsPrefix (output.taken ++ before) output'.taken record_bytes
adds_some output output' journal' before record_bytes s (some, first, is) =
    (some, first, s.taken ∙ ap (λ (l : List ℕ). output.taken ++ l) is ∙ sym (append_assoc output.taken before some))

-- the reference that it has is the one that it was made with
pub same_name : (name name' : GName) (holds holds' : List GName) → name ∷ holds ≡ name' ∷ holds' → name ≡ name'
same_name name name' holds holds' h = cc
