-- One piece after another.
use Rattle.std.proofs.Common.{◌≡◌, ℕ, ◌+◌, ◌-◌, ◌^◌, ◌<◌, ◌≤◌, ◌⊎◌, inl, inr, List, ◌∷◌, ◌++◌, length, take, drop, min, Result, Ok, Err, OnOk, refl, sym, ap, ◌∙◌, arith, append_assoc, length-append, length-drop, take-append-drop}
use Rattle.std.specs.Borrow.{GName}
use Rattle.std.proofs.Math.Seq.{drop-append-le}
use Rattle.std.proofs.lemmas.List.{take_all, take-append-le, length-take-le}
use Rattle.xcap_io.specs.StreamStates.{StreamState, CountRises, DiffersByWrites}
use Rattle.edit_journal.specs.Journals.{IsJournalProgress, AppendsPiece, TruncatesJournal}
use Rattle.edit_journal.specs.MemoryJournals.{MemoryJournal, memory_journal_state}
use Rattle.edit_journal.specs.StreamJournals.{stream_journal_state}

-- two pieces, the first of which was added
pub then_more : {T E : Type 0} (r : Result T E) (a b c x y : List ℕ) → b ≡ a ++ x → OnOk r (c ≡ b ++ y) → OnOk r (c ≡ a ++ (x ++ y))
then_more (Ok v) a b c x y p q = q ∙ ap (λ l. l ++ y) p ∙ append_assoc a x y
then_more (Err e) a b c x y p q = tt

-- a journal in memory went on, and its fault counter rose
memory_goes : (old new : MemoryJournal) → old.faults ≤ new.faults → CountRises old.faults new.faults → IsJournalProgress (memory_journal_state old) (memory_journal_state new)
memory_goes old new later rose = record {
  later = later;
  later_beneath = later;
  cause = λ none. inr rose;
  same_before = refl;
  same_holds = refl;
  same_aside = refl;
}

-- a journal in memory failed, and keeps some of the piece
pub memory_stops : {E : Type 0} (old new : MemoryJournal) (e : E) (piece : List ℕ) (count : ℕ) → new.held ≡ old.held ++ take count piece
    → old.faults ≤ new.faults → CountRises old.faults new.faults → AppendsPiece (memory_journal_state old) (memory_journal_state new) (Err e) piece
memory_stops old new e piece count held later rose = record {
  added = (take count piece, (drop count piece, sym (take-append-drop count piece)), held);
  counts = rose;
  goes = memory_goes old new later rose;
}

-- a journal in memory failed to cut, and is unchanged
pub memory_keeps : {E : Type 0} (old new : MemoryJournal) (e : E) (len : ℕ) → len ≤ length old.held → new.held ≡ old.held
    → old.faults ≤ new.faults → CountRises old.faults new.faults → TruncatesJournal (memory_journal_state old) (memory_journal_state new) (Err e) len
memory_keeps old new e len within held later rose = record {
  kept = (length old.held, within, held ∙ sym (take_all (length old.held) old.held (omega arith)));
  counts = rose;
  goes = memory_goes old new later rose;
}

-- the count of bytes that were written, as it is stored
abbrev pub counted : ℕ → ℕ → ℕ
counted len count = min (len + count) (2 ^ 64 - 1)

-- the offset where the last bytes of what was taken begin is unchanged as more is taken, though
-- their count stops at the greatest `u64`
start_stays : (taken bytes : List ℕ) (len : ℕ) → length (drop (length taken - len) taken) + length bytes < 2 ^ 64
    → length (taken ++ bytes) - counted len (length bytes) ≡ length taken - len
start_stays taken bytes len room = omega (arith, length-append taken bytes, length-drop (length taken - len) taken)

held_more : (old new bytes : List ℕ) (len len' : ℕ) → length (drop (length old - len) old) + length bytes < 2 ^ 64 → new ≡ old ++ bytes → len' ≡ counted len (length bytes)
    → drop (length new - len') new ≡ drop (length old - len) old ++ bytes
held_more old new bytes len len' room p size =
    ap (λ n. drop (length new - n) new) size ∙ ap (λ l. drop (length l - counted len (length bytes)) l) p
    ∙ ap (λ n. drop n (old ++ bytes)) (start_stays old bytes len room)
    ∙ drop-append-le (length old - len) old bytes (omega arith)

before_stays : (old new bytes : List ℕ) (len len' : ℕ) → length (drop (length old - len) old) + length bytes < 2 ^ 64 → new ≡ old ++ bytes → len' ≡ counted len (length bytes)
    → take (length new - len') new ≡ take (length old - len) old
before_stays old new bytes len len' room p size =
    ap (λ n. take (length new - n) new) size ∙ ap (λ l. take (length l - counted len (length bytes)) l) p
    ∙ ap (λ n. take n (old ++ bytes)) (start_stays old bytes len room)
    ∙ take-append-le (length old - len) old bytes (omega arith)

stream_goes : (old new : StreamState) (name : GName) (len len' faults faults' : ℕ) (bytes : List ℕ) → length (stream_journal_state old name len faults).held + length bytes < 2 ^ 64 → new.taken ≡ old.taken ++ bytes
    → len' ≡ counted len (length bytes) → DiffersByWrites old new → faults ≤ faults' → (faults ≡ 0 → (faults' ≡ 0) ⊎ CountRises old.write_faults new.write_faults)
    → IsJournalProgress (stream_journal_state old name len faults) (stream_journal_state new name len' faults')
stream_goes old new name len len' faults faults' bytes room p size writes later cause = record {
  later = later;
  later_beneath = writes.later;
  cause = cause;
  same_before = before_stays old.taken new.taken bytes len len' room p size;
  same_holds = ap (λ l. name ∷ l) writes.same_holds;
  same_aside = cc;
}

-- all bytes were written
pub stream_adds : {E : Type 0} (old new : StreamState) (name : GName) (len len' faults faults' : ℕ) (bytes : List ℕ) → length (stream_journal_state old name len faults).held + length bytes < 2 ^ 64
    → new.taken ≡ old.taken ++ bytes → len' ≡ counted len (length bytes) → DiffersByWrites old new → faults' ≡ faults
    → AppendsPiece {E = E} (stream_journal_state old name len faults) (stream_journal_state new name len' faults') (Ok tt) bytes
stream_adds old new name len len' faults faults' bytes room p size writes same = record {
  added = held_more old.taken new.taken bytes len len' room p size;
  counts = same;
  goes = stream_goes old new name len len' faults faults' bytes room p size writes (omega arith) (λ none. inl (same ∙ none));
}

-- some were written, and then a write failed
pub stream_stops : {E : Type 0} (old new : StreamState) (name : GName) (len len' faults faults' : ℕ) (e : E) (bytes : List ℕ) (done : ℕ) → done ≤ length bytes
    → length (stream_journal_state old name len faults).held + length bytes < 2 ^ 64 → new.taken ≡ old.taken ++ take done bytes → len' ≡ counted len done
    → DiffersByWrites old new → faults ≤ faults' → CountRises faults faults' → CountRises old.write_faults new.write_faults
    → AppendsPiece (stream_journal_state old name len faults) (stream_journal_state new name len' faults') (Err e) bytes
stream_stops old new name len len' faults faults' e bytes done within room p size writes later rose rose' =
    let short : length (take done bytes) ≡ done = length-take-le done bytes within in
    let size' : len' ≡ counted len (length (take done bytes)) = size ∙ ap (λ n. counted len n) (sym short) in
    let room' : length (stream_journal_state old name len faults).held + length (take done bytes) < 2 ^ 64 = omega (arith, room, short) in
    record {
      added = (take done bytes, (drop done bytes, sym (take-append-drop done bytes)), held_more old.taken new.taken (take done bytes) len len' room' p size');
      counts = rose;
      goes = stream_goes old new name len len' faults faults' (take done bytes) room' p size' writes later (λ none. inr rose');
    }

-- a journal over a sink can't cut
pub stream_keeps : {E : Type 0} (sink : StreamState) (name : GName) (len faults faults' : ℕ) (e : E) (first : ℕ) → first ≤ length (stream_journal_state sink name len faults).held → 0 < faults → faults ≤ faults' → CountRises faults faults'
    → TruncatesJournal (stream_journal_state sink name len faults) (stream_journal_state sink name len faults') (Err e) first
stream_keeps sink name len faults faults' e first within some later rose = record {
  kept = (
    length (stream_journal_state sink name len faults).held,
    within,
    sym (take_all (length (stream_journal_state sink name len faults).held) (stream_journal_state sink name len faults).held (omega arith)),
  );
  counts = rose;
  goes = record {
    later = later;
    later_beneath = omega arith;
    cause = λ none. absurd (omega arith);
    same_before = refl;
    same_holds = refl;
    same_aside = refl;
  };
}
