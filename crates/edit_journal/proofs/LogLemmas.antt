-- What a log knows of its journal after a call.
use Rattle.std.proofs.Common.{◌≡◌, ℕ, ◌+◌, ◌-◌, ◌<◌, ◌≤◌, inl, inr, Bool, true, false, List, [], ◌∷◌, ◌++◌, length, take, drop, refl, sym, ap, ◌∙◌, subst, arith, take-append-drop, Ok}
use Rattle.std.proofs.Math.Seq.{take-add}
use Rattle.std.proofs.lemmas.List.{take_all, drop_all, length-take}
use Rattle.std.specs.Bool.{MatchBool}
use Rattle.edit_journal.specs.Journals.{JournalState, IsPrefixOf, AppendsPrefix, KeepsFirstBytes}
use Rattle.edit_journal.specs.JournalLogs.{LogState, LogFitsJournal, KeepsCompleteRecords, AddsRecord, log_with_record}
use Rattle.edit_journal.specs.inner.AppendSteps.{RepairsLog, AppendsToLog, FailsToAppend}

-- nothing comes after the complete records of a log that isn't torn
pub whole_len : (log : LogState) (journal : JournalState) → log.is_torn ≡ false → LogFitsJournal log journal → length journal.held ≡ log.len
whole_len log journal whole fits = subst (λ (b : Bool). MatchBool b ((log.len ≤ length journal.held) × (0 < journal.faults)) (length journal.held ≡ log.len)) whole fits

-- a prefix of the bytes appended after all
pub behind_some : (old new : List ℕ) (len : ℕ) (bytes : List ℕ) → length old ≡ len → AppendsPrefix old new bytes → KeepsCompleteRecords len bytes old new
behind_some old new len bytes whole p =
    (p.0, p.2 ∙ ap (λ l. l ++ p.0) (sym (take_all len old (omega arith))), inl p.1)

-- more than the first bytes were kept
pub behind_kept : (old new : List ℕ) (len : ℕ) (bytes : List ℕ) → KeepsFirstBytes old new len → KeepsCompleteRecords len bytes old new
behind_kept old new len bytes (count, least, p) =
    let is : count ≡ len + (count - len) = omega arith in
    (take (count - len) (drop len old), p ∙ ap (λ n. take n old) is ∙ take-add len (count - len) old, inr (drop (count - len) (drop len old), sym (take-append-drop (count - len) (drop len old))))

-- a prefix of no bytes is a prefix of any
none_first : (rest bytes : List ℕ) → IsPrefixOf rest [] → IsPrefixOf rest bytes
none_first [] bytes p = (bytes, refl)
none_first (b ∷ rest) bytes p = absurd (omega (arith, ap length p.1))

kept_for : (old new : List ℕ) (len : ℕ) (bytes : List ℕ) → KeepsCompleteRecords len [] old new → KeepsCompleteRecords len bytes old new
kept_for old new len bytes p = (p.0, p.1, elim p.2 [ inl q ↦ inl (none_first p.0 bytes q) | inr q ↦ inr q ])

kept_on : (old mid new : List ℕ) (len : ℕ) (bytes : List ℕ) → mid ≡ take len old → KeepsCompleteRecords len bytes mid new → KeepsCompleteRecords len bytes old new
kept_on old mid new len bytes p q =
    let short : length mid ≤ len = omega (arith, ap length p, length-take len old) in
    let same : take len mid ≡ take len old = take_all len mid short ∙ p in
    (q.0, q.1 ∙ ap (λ l. l ++ q.0) same, elim q.2 [ inl r ↦ inl r | inr r ↦ inl (none_first q.0 bytes (subst (IsPrefixOf q.0) (drop_all len mid short) r)) ])

-- after what came last was cut off, the record was not added
pub not_added_on : (log : LogState) (journal : JournalState) (log' : LogState) (journal' : JournalState) (log'' : LogState) (journal'' : JournalState) (bytes : List ℕ)
    → RepairsLog log journal log' journal' → FailsToAppend log' journal' bytes log'' journal'' → FailsToAppend log journal bytes log'' journal''
not_added_on log journal log' journal' log'' journal'' bytes p q = (
  q.0 ∙ ap (λ (m : LogState). record m { is_torn = true }) p.0,
  kept_on journal.held journal'.held journal''.held log.len bytes p.1
      (subst (λ (m : LogState). KeepsCompleteRecords m.len bytes journal'.held journal''.held) p.0 q.1),
  omega (arith, p.2, q.2),
)

-- the record was not added where nothing could be cut off
pub not_added_for : (log : LogState) (journal : JournalState) (log' : LogState) (journal' : JournalState) (bytes : List ℕ) → FailsToAppend log journal [] log' journal' → FailsToAppend log journal bytes log' journal'
not_added_for log journal log' journal' bytes p = (p.0, kept_for journal.held journal'.held log.len bytes p.1, p.2)

-- after what came last was cut off, the record was added
pub added_on : (log : LogState) (journal : JournalState) (log' : LogState) (journal' : JournalState) (log'' : LogState) (journal'' : JournalState) (bytes : List ℕ)
    → RepairsLog log journal log' journal' → AppendsToLog log' journal' bytes log'' journal'' → AddsRecord (record { log = log; journal = journal }) bytes (Ok tt) (record { log = log''; journal = journal'' })
added_on log journal log' journal' log'' journal'' bytes p q = (
  q.0 ∙ ap (λ (m : LogState). log_with_record m bytes) p.0,
  q.1 ∙ ap (λ l. l ++ bytes) p.1,
  q.2 ∙ p.2,
)
