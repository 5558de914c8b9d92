-- Requests that are replayed one after the other, and their records.
use Rattle.std.proofs.Common.{◌≡◌, ℕ, ◌+◌, ◌≤◌, inl, inr, false, List, [], ◌∷◌, ◌++◌, length, take, drop, All, Ok, Err, refl, sym, ap, ◌∙◌, subst, arith, append-nil, append_assoc, length-append}
use Rattle.std.proofs.lemmas.List.{take_all, drop_all}
use Rattle.std.proofs.lemmas.List.Elements.{All-append, All-cons, All-nil}
use Rattle.http_wire.specs.declared.request.Request.{Request}
use Rattle.edit_journal.specs.declared.journal_log.AppendFault.{AppendFault}
use Rattle.edit_journal.specs.declared.journal_log.AppendFault.TheVariants.{Failed, NoMemory as NoRecord}
use Rattle.edit_journal.specs.declared.replayer.ReplayStep.TheVariants.{Done}
use Rattle.edit_journal.specs.declared.journal_restart.RestartFault.{RestartFault}
use Rattle.edit_journal.specs.declared.journal_restart.RestartFault.TheVariants.{ReadFailed, AppendFailed, Damaged, Refused, TooLong, NoMemory}
use Rattle.edit_journal.specs.Records.{record_of}
use Rattle.edit_journal.specs.Journals.{JournalState, IsJournalProgress, IsPrefixOf, AppendsPrefix}
use Rattle.edit_journal.specs.JournalLogs.{LogState, LoggedJournal, LogFitsJournal, KeepsCompleteRecords, AddsRecord, log_with_record}
use Rattle.edit_journal.specs.Replayers.{IsEquivalentState, ReplaysRequest, ReplaysRequests}
use Rattle.edit_journal.specs.JournalTexts.{journal_text, IsRecordedRequest}
use Rattle.edit_journal.specs.inner.ReplaySteps.{ReplayProgress, AdvancesReplay, ReplayStopsAs, StopsReplay, ReplaysBufferedRecords, restart_fault_of}
use Rattle.edit_journal.proofs.JournalCalls.{goes_none, goes_on}
use Rattle.edit_journal.proofs.WholeRecords.{journal_text-append}
use Rattle.edit_journal.proofs.Lengths.{record_length}
use Rattle.edit_journal.proofs.LogLemmas.{whole_len}

-- each record has at least one byte
pub records_longer : (requests : List Request) → length requests ≤ length (journal_text requests)
records_longer [] = omega arith
records_longer (request ∷ requests) = omega (arith, records_longer requests, length-append (record_of request) (journal_text requests), record_length request)

-- a restart with these parts
abbrev pub replay_progress : {S : Type 0} → S → JournalState → LogState → ℕ → ReplayProgress S
replay_progress replayer journal log count = record { replayer = replayer; journal = journal; log = log; count = count }

-- the new journal of a restart with its log
abbrev pub journal_with_log : {S : Type 0} → ReplayProgress S → LoggedJournal
journal_with_log at = record { log = at.log; journal = at.journal }

module _ {S : Type 0} (stands : S → List Request → Type 0) (refuses : S → Request → Type 0) where
  pub means_refl : (x : S) → IsEquivalentState stands refuses x x
  means_refl x = record { stands_too = λ requests. ((λ h. h), (λ h. h)); refuses_too = λ request. ((λ h. h), (λ h. h)) }

  means_on : (old mid new : S) → IsEquivalentState stands refuses old mid → IsEquivalentState stands refuses mid new → IsEquivalentState stands refuses old new
  means_on old mid new p q = record {
    stands_too = λ requests. ((λ h. (p.stands_too requests).0 ((q.stands_too requests).0 h)), (λ h. (q.stands_too requests).1 ((p.stands_too requests).1 h)));
    refuses_too = λ request. ((λ h. (p.refuses_too request).0 ((q.refuses_too request).0 h)), (λ h. (q.refuses_too request).1 ((p.refuses_too request).1 h)));
  }

  -- states of the same meaning do the same
  redoes_for : (old mid new : S) (requests : List Request) → IsEquivalentState stands refuses old mid → ReplaysRequests stands refuses mid requests new → ReplaysRequests stands refuses old requests new
  redoes_for old mid new [] same p = means_on old mid new same p
  redoes_for old mid new (request ∷ requests) same (next, (free, on), more) =
      (next, ((λ h. free ((same.refuses_too request).1 h)), (λ past h. on past ((same.stands_too past).1 h))), more)

  pub redoes_all_on : (old mid new : S) (first next : List Request) → ReplaysRequests stands refuses old first mid → ReplaysRequests stands refuses mid next new → ReplaysRequests stands refuses old (first ++ next) new
  redoes_all_on old mid new [] next p q = redoes_for old mid new next p q
  redoes_all_on old mid new (request ∷ first) next (after, redo, more) q = (after, redo, redoes_all_on after mid new first next more q)

  pub stood : (old new : S) (requests : List Request) → ReplaysRequests stands refuses old requests new → (past : List Request) → stands old past → stands new (past ++ requests)
  stood old new [] p past h = subst (λ l. stands new l) (sym (append-nil past)) ((p.stands_too past).1 h)
  stood old new (request ∷ requests) (next, redo, more) past h =
      subst (λ l. stands new l) (append_assoc past (request ∷ []) requests) (stood next new requests more (past ++ request ∷ []) (redo.1 past h))

  redoes_one : (old new : S) (request : Request) → ReplaysRequest stands refuses old request Done new → ReplaysRequests stands refuses old (request ∷ []) new
  redoes_one old new request redo = (new, redo, means_refl new)

  -- records after those of the first requests
  held_on : (held held' : List ℕ) (first next : List Request) → held' ≡ held ++ journal_text first → held' ++ journal_text next ≡ held ++ journal_text (first ++ next)
  held_on held held' first next p = ap (λ l. l ++ journal_text next) p ∙ append_assoc held (journal_text first) (journal_text next) ∙ ap (λ l. held ++ l) (sym (journal_text-append first next))

  log_on : (log log' log'' : LogState) (first next : List Request) → log' ≡ log_with_record log (journal_text first) → log'' ≡ log_with_record log' (journal_text next) → log'' ≡ log_with_record log (journal_text (first ++ next))
  log_on log log' log'' first next p q =
      let len : log'.len ≡ log.len + length (journal_text first) = ap (λ (l : LogState). l.len) p in
      let size : length (journal_text (first ++ next)) ≡ length (journal_text first) + length (journal_text next) = ap length (journal_text-append first next) ∙ length-append (journal_text first) (journal_text next) in
      let sum : log'.len + length (journal_text next) ≡ log.len + length (journal_text (first ++ next)) = omega (arith, len, size) in
      q ∙ ap (λ n. record { len = n; is_torn = false }) sum

  pub redone_none : (at : ReplayProgress S) → at.log.is_torn ≡ false → AdvancesReplay stands refuses at at []
  redone_none at whole = record {
    recorded = All-nil IsRecordedRequest;
    redone = means_refl at.replayer;
    held = sym (append-nil at.journal.held);
    added =
        let sum : at.log.len ≡ at.log.len + 0 = omega arith in
        λ i. record { len = sum i; is_torn = whole i };
    counted = omega arith;
    goes = goes_none at.journal;
    no_fault = refl;
  }

  pub redone_on : (r0 r1 r2 : ReplayProgress S) (first next : List Request)
      → AdvancesReplay stands refuses r0 r1 first → AdvancesReplay stands refuses r1 r2 next → AdvancesReplay stands refuses r0 r2 (first ++ next)
  redone_on r0 r1 r2 first next p q = record {
    recorded = All-append IsRecordedRequest first next p.recorded q.recorded;
    redone = redoes_all_on r0.replayer r1.replayer r2.replayer first next p.redone q.redone;
    held = q.held ∙ held_on r0.journal.held r1.journal.held first next p.held;
    added = log_on r0.log r1.log r2.log first next p.added q.added;
    counted = omega (arith, p.counted, q.counted, length-append first next);
    goes = goes_on r0.journal r1.journal r2.journal p.goes q.goes;
    no_fault = q.no_fault ∙ p.no_fault;
  }

  -- how it stopped after the first requests and these
  stops_as_on : (r0 r1 r2 : ReplayProgress S) (first next : List Request) (rest : List ℕ) (fault : RestartFault)
      → AdvancesReplay stands refuses r0 r1 first → ReplayStopsAs stands refuses r1 r2 next rest fault → ReplayStopsAs stands refuses r0 r2 (first ++ next) rest fault
  stops_as_on r0 r1 r2 first next rest ReadFailed p q = q
  stops_as_on r0 r1 r2 first next rest AppendFailed p ((before, last, is, (some, front, held)), rose) = (
    (
      first ++ before,
      last,
      ap (λ l. first ++ l) is ∙ sym (append_assoc first before (last ∷ [])),
      (some, front, held ∙ ap (λ l. l ++ some) (held_on r0.journal.held r1.journal.held first before p.held)),
    ),
    omega (arith, rose, p.no_fault),
  )
  stops_as_on r0 r1 r2 first next rest (Damaged place) p (held, damaged, is, none) =
      let len : r1.log.len ≡ r0.log.len + length (journal_text first) = ap (λ (l : LogState). l.len) p.added in
      let size : length (journal_text (first ++ next)) ≡ length (journal_text first) + length (journal_text next) = ap length (journal_text-append first next) ∙ length-append (journal_text first) (journal_text next) in
      (held ∙ held_on r0.journal.held r1.journal.held first next p.held, damaged, omega (arith, is, len, size), none ∙ p.no_fault)
  stops_as_on r0 r1 r2 first next rest (Refused number) p (held, refused, is, none) =
      (held ∙ held_on r0.journal.held r1.journal.held first next p.held, refused, omega (arith, is, p.counted, length-append first next), none ∙ p.no_fault)
  stops_as_on r0 r1 r2 first next rest TooLong p q = q
  stops_as_on r0 r1 r2 first next rest NoMemory p ((before, more, is, held), none) = (
    (
      first ++ before,
      more,
      ap (λ l. first ++ l) is ∙ sym (append_assoc first before more),
      held ∙ held_on r0.journal.held r1.journal.held first before p.held,
    ),
    none ∙ p.no_fault,
  )

  pub stops_on : (r0 r1 r2 : ReplayProgress S) (first : List Request) (bytes left : List ℕ) (fault : RestartFault)
      → AdvancesReplay stands refuses r0 r1 first → bytes ≡ journal_text first ++ left → StopsReplay stands refuses r1 r2 left fault → StopsReplay stands refuses r0 r2 bytes fault
  stops_on r0 r1 r2 first bytes left fault p split q = record {
    requests = first ++ q.requests;
    rest = q.rest;
    recorded = All-append IsRecordedRequest first q.requests p.recorded q.recorded;
    split = split ∙ ap (λ l. journal_text first ++ l) q.split ∙ sym (append_assoc (journal_text first) (journal_text q.requests) q.rest) ∙ ap (λ l. l ++ q.rest) (sym (journal_text-append first q.requests));
    redone = redoes_all_on r0.replayer r1.replayer r2.replayer first q.requests p.redone q.redone;
    ending = stops_as_on r0 r1 r2 first q.requests q.rest fault p q.ending;
    goes = goes_on r0.journal r1.journal r2.journal p.goes q.goes;
  }

  -- the request at the front is refused
  pub stops_refused : (at : ReplayProgress S) (replayer' : S) (number : ℕ) (request : Request) (more : List ℕ) → IsRecordedRequest request
      → refuses at.replayer request × IsEquivalentState stands refuses at.replayer replayer' → number ≡ at.count + 1
      → StopsReplay stands refuses at (record at { replayer = replayer' }) (record_of request ++ more) (Refused number)
  stops_refused at replayer' number request more recorded (refused, same) is = record {
    requests = [];
    rest = record_of request ++ more;
    recorded = All-nil IsRecordedRequest;
    split = refl;
    redone = same;
    ending = (sym (append-nil at.journal.held), (request, more, (recorded, refl), (same.refuses_too request).1 refused), omega (arith, is), refl);
    goes = goes_none at.journal;
  }

  one_told : (request : Request) → IsRecordedRequest request → All IsRecordedRequest (request ∷ [])
  one_told request recorded = All-cons IsRecordedRequest request [] recorded (All-nil IsRecordedRequest)

  -- after the complete records comes only a prefix of the record
  some_added : (old new : List ℕ) (len : ℕ) (bytes : List ℕ) → length old ≡ len → KeepsCompleteRecords len bytes old new → AppendsPrefix old new bytes
  some_added old new len bytes whole (rest, is, front) =
      let all : take len old ≡ old = take_all len old (omega (arith, whole)) in
      let none : drop len old ≡ [] = drop_all len old (omega (arith, whole)) in
      (rest, elim front [ inl p ↦ p | inr p ↦ first_of_none rest bytes (subst (IsPrefixOf rest) none p) ], is ∙ ap (λ l. l ++ rest) all)
    where
      first_of_none : (rest bytes : List ℕ) → IsPrefixOf rest [] → IsPrefixOf rest bytes
      first_of_none [] bytes p = (bytes, refl)
      first_of_none (b ∷ rest) bytes p = absurd (omega (arith, ap length p.1))

  -- a request was replayed, and then its record was to be added
  pub one_redone : (old new : ReplayProgress S) (request : Request) (more : List ℕ) → IsRecordedRequest request → old.log.is_torn ≡ false → LogFitsJournal old.log old.journal
      → ReplaysRequest stands refuses old.replayer request Done new.replayer → new.count ≡ old.count + 1 → AddsRecord (journal_with_log old) (record_of request) (Ok tt) (journal_with_log new) → IsJournalProgress old.journal new.journal
      → ReplaysBufferedRecords stands refuses old new (record_of request ++ more) more (Ok tt)
  one_redone old new request more recorded whole fits redo counts (added, held, none) goes =
      let all : take old.log.len old.journal.held ≡ old.journal.held = take_all old.log.len old.journal.held (omega (arith, whole_len old.log old.journal whole fits)) in (
        request ∷ [],
        ap (λ l. l ++ more) (sym (append-nil (record_of request))),
        record {
          recorded = one_told request recorded;
          redone = redoes_one old.replayer new.replayer request redo;
          held = held ∙ ap (λ l. l ++ record_of request) all ∙ ap (λ l. old.journal.held ++ l) (sym (append-nil (record_of request)));
          added = added ∙ ap (λ l. log_with_record old.log l) (sym (append-nil (record_of request)));
          counted = omega (arith, counts);
          goes = goes;
          no_fault = none;
        },
      )

  pub one_stopped : (old new : ReplayProgress S) (request : Request) (fault : AppendFault) (more : List ℕ) → IsRecordedRequest request → old.log.is_torn ≡ false → LogFitsJournal old.log old.journal
      → ReplaysRequest stands refuses old.replayer request Done new.replayer → AddsRecord (journal_with_log old) (record_of request) (Err fault) (journal_with_log new) → IsJournalProgress old.journal new.journal
      → StopsReplay stands refuses old new (record_of request ++ more) (restart_fault_of fault)
  one_stopped old new request Failed more recorded whole fits redo (torn, kept, rose) goes = record {
    requests = request ∷ [];
    rest = more;
    recorded = one_told request recorded;
    split = ap (λ l. l ++ more) (sym (append-nil (record_of request)));
    redone = redoes_one old.replayer new.replayer request redo;
    ending =
        let adds = some_added old.journal.held new.journal.held old.log.len (record_of request) (whole_len old.log old.journal whole fits) kept in
        (([], request, refl, (adds.0, adds.1, adds.2 ∙ ap (λ l. l ++ adds.0) (sym (append-nil old.journal.held)))), rose);
    goes = goes;
  }
  one_stopped old new request NoRecord more recorded whole fits redo (same, stays) goes = record {
    requests = request ∷ [];
    rest = more;
    recorded = one_told request recorded;
    split = ap (λ l. l ++ more) (sym (append-nil (record_of request)));
    redone = redoes_one old.replayer new.replayer request redo;
    ending = (([], request ∷ [], refl, ap (λ (j : JournalState). j.held) stays ∙ sym (append-nil old.journal.held)), ap (λ (j : JournalState). j.faults) stays);
    goes = goes;
  }

  -- some requests were replayed, and then more
  pub held_next : (r0 r1 r2 : ReplayProgress S) (bytes left more rest : List ℕ)
      → ReplaysBufferedRecords stands refuses r0 r1 bytes left (Ok tt) → left ≡ more → ReplaysBufferedRecords stands refuses r1 r2 more rest (Ok tt)
      → ReplaysBufferedRecords stands refuses r0 r2 bytes rest (Ok tt)
  held_next r0 r1 r2 bytes left more rest (first, split, p) same (next, split', q) = (
    first ++ next,
    split ∙ ap (λ l. journal_text first ++ l) (same ∙ split') ∙ sym (append_assoc (journal_text first) (journal_text next) rest) ∙ ap (λ l. l ++ rest) (sym (journal_text-append first next)),
    redone_on r0 r1 r2 first next p q,
  )

  -- some requests were replayed, and then it stopped
  pub held_stops : (r0 r1 r2 : ReplayProgress S) (bytes left more : List ℕ) (fault : RestartFault)
      → ReplaysBufferedRecords stands refuses r0 r1 bytes left (Ok tt) → left ≡ more → StopsReplay stands refuses r1 r2 more fault
      → StopsReplay stands refuses r0 r2 bytes fault
  held_stops r0 r1 r2 bytes left more fault (first, split, p) same q =
      stops_on r0 r1 r2 first bytes more fault p (split ∙ ap (λ l. journal_text first ++ l) same) q

  -- the log is no longer than it was plus the bytes
  pub held_short : (r0 r1 : ReplayProgress S) (bytes left : List ℕ) → ReplaysBufferedRecords stands refuses r0 r1 bytes left (Ok tt)
      → r1.log.len + length left ≡ r0.log.len + length bytes
  held_short r0 r1 bytes left (requests, split, p) =
      let len : r1.log.len ≡ r0.log.len + length (journal_text requests) = ap (λ (l : LogState). l.len) p.added in
      omega (arith, len, ap length split, length-append (journal_text requests) left)

  -- and it has at least as many bytes as records were counted
  pub held_few : (r0 r1 : ReplayProgress S) (bytes left : List ℕ) → r0.count ≤ r0.log.len → ReplaysBufferedRecords stands refuses r0 r1 bytes left (Ok tt)
      → r1.count ≤ r1.log.len
  held_few r0 r1 bytes left few (requests, split, p) =
      let len : r1.log.len ≡ r0.log.len + length (journal_text requests) = ap (λ (l : LogState). l.len) p.added in
      omega (arith, few, len, p.counted, records_longer requests)
