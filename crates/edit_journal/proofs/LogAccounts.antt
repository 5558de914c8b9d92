-- A machine whose accepted requests are logged, and its accounts: what its journal has, and how
-- many records couldn't be added.
use Rattle.std.proofs.Common.{◌≡◌, ℕ, ◌+◌, inl, inr, Bool, true, false, List, [], ◌∷◌, ◌++◌, length, take, Option, refl, sym, ap, subst, ◌∙◌, arith, append-nil, append_assoc, length-append}
use Rattle.std.proofs.lemmas.List.Elements.{All-append, All-cons, All-nil}
use Rattle.std.specs.Bool.{MatchBool}
use Rattle.reply_text.specs.ReplyHeads.{SentReply}
use Rattle.http_wire.specs.declared.request.Request.{Request}
use Rattle.xcap_io.specs.StreamStates.{StreamState, CountRises, CountRisesBy}
use Rattle.edit_journal.specs.Journals.{IsJournalProgress, IsPrefixOf, JournalState}
use Rattle.edit_journal.specs.JournalLogs.{LogFitsJournal, HoldsRecords, KeepsCompleteRecords, LogState, log_with_record}
use Rattle.edit_journal.specs.Records.{IsRecordable, record_of, recorded_request}
use Rattle.edit_journal.specs.JournalTexts.{IsRecordedRequest, journal_text}
use Rattle.edit_journal.proofs.JournalCalls.{goes_none, goes_on}
use Rattle.edit_journal.proofs.WholeRecords.{behind_whole, is_told, text_one_more, whole_first}
use Rattle.http_serve.specs.declared.accept_loop.ServeSummary.{ServeSummary}
use Rattle.http_serve.specs.ServedPorts.{ServesPort}
use Rattle.http_serve.specs.ReplyBytes.{StepsInBytes}
use Rattle.http_serve.proofs.Simulations.{port_by}
use Rattle.edit_journal.specs.LoggedRequests.{AcceptsRequest, AnswersWithJournal, entered, not_entered, stays}
use Rattle.edit_journal.specs.LoggedMachines.{LoggedMachineState, HoldsLog, LoggedStep, accepted_requests, answered, not_logged}
use Rattle.edit_journal.specs.LoggedPorts.{ServesLogged}
use Rattle.edit_journal.specs.inner.JournaledMachines.{JournaledMachineState, JournaledMachineStep}

-- ---- what the journal has

-- the accounts without what is known of the record that breaks off
as_records : (Accepted : Request → Type 0) (log : LogState) (requests : List Request) (bytes : List ℕ) → HoldsLog Accepted log requests bytes → HoldsRecords log requests bytes
as_records Accepted log requests bytes h = record {
  rest = h.rest;
  recorded = h.recorded;
  split = h.split;
  len = h.len;
  behind = by_torn log.is_torn h.behind;
}
  where
    by_torn : (is_torn : Bool) → MatchBool is_torn ((request : Request) × IsRecordable request × Accepted request × IsPrefixOf h.rest (record_of request)) (h.rest ≡ [])
        → MatchBool is_torn ((request : Request) × IsRecordedRequest request × IsPrefixOf h.rest (record_of request)) (h.rest ≡ [])
    by_torn true b = (recorded_request b.0, is_told b.0 b.1, b.3)
    by_torn false b = b

module _ (Accepted : Request → Type 0) (log : LogState) (requests : List Request) (old new : List ℕ) (request : Request) (can : IsRecordable request) (holds : HoldsLog Accepted log requests old) where
  abbrev records : HoldsRecords log requests old
  records = as_records Accepted log requests old holds

  -- one more record
  holds_added : (Accepted' : Request → Type 0) → new ≡ take log.len old ++ record_of request → HoldsLog Accepted' (log_with_record log (record_of request)) (requests ++ recorded_request request ∷ []) new
  holds_added Accepted' behind = record {
    rest = [];
    recorded = All-append IsRecordedRequest requests (recorded_request request ∷ []) holds.recorded (All-cons IsRecordedRequest (recorded_request request) [] (is_told request can) (All-nil IsRecordedRequest));
    split = behind ∙ ap (λ l. l ++ record_of request) (whole_first log requests old records) ∙ sym (text_one_more requests request) ∙ sym (append-nil (journal_text (requests ++ recorded_request request ∷ [])));
    len = ap length (text_one_more requests request) ∙ length-append (journal_text requests) (record_of request) ∙ ap (λ n. n + length (record_of request)) holds.len;
    behind = refl;
  }

  -- what comes after the complete records begins the record of a request that would be accepted
  abbrev Begins : List ℕ → Type 0
  Begins bytes = (r : Request) × IsRecordable r × Accepted r × IsPrefixOf bytes (record_of r)

  behind_begins : Accepted request → (is_torn : Bool) → MatchBool is_torn (Begins holds.rest) (holds.rest ≡ []) → Begins holds.rest
  behind_begins accepts true behind = behind
  behind_begins accepts false behind = (request, can, accepts, (record_of request, ap (λ l. l ++ record_of request) (sym behind)))

  begins_too : (bytes all : List ℕ) → IsPrefixOf bytes all → Begins all → Begins bytes
  begins_too bytes all p q = (q.0, q.1, q.2, (p.0 ++ q.3.0, q.3.1 ∙ ap (λ l. l ++ q.3.0) p.1 ∙ append_assoc bytes p.0 q.3.0))

  -- a record that wasn't added
  holds_kept : Accepted request → KeepsCompleteRecords log.len (record_of request) old new → HoldsLog Accepted (record log { is_torn = true }) requests new
  unfolding as_records
  holds_kept accepts kept = record {
    rest = kept.0;
    recorded = holds.recorded;
    split = kept.1 ∙ ap (λ l. l ++ kept.0) (whole_first log requests old records);
    len = holds.len;
    behind = elim kept.2 [
      | inl p ↦ (request, can, accepts, p)
      | inr p ↦ begins_too kept.0 holds.rest (subst (IsPrefixOf kept.0) (behind_whole log requests old records) p) (behind_begins accepts log.is_torn holds.behind)
    ];
  }

-- what the journal has after a request was answered
pub holds_after : {M E : Type 0} (Step : M → Request → SentReply → M → Option E → Type 0) (old next : M) (log log' : LogState) (journal journal' : JournalState) (request : Request) (reply : SentReply) (edit : Option E) (requests : List Request)
    → AnswersWithJournal Step (record { machine = old; log = log; journal = journal }) request reply (record { machine = next; log = log'; journal = journal' }) edit → HoldsLog (AcceptsRequest Step old) log requests journal.held → HoldsLog (AcceptsRequest Step next) log' (requests ++ accepted_requests request edit) journal'.held
holds_after {M} Step old next log log' journal journal' request reply edit requests (stays none step same log_same journal_same) holds =
    subst (λ (rs : List Request). HoldsLog (AcceptsRequest Step next) log' rs journal'.held) (sym (append-nil requests) ∙ ap (λ e. requests ++ accepted_requests request e) (sym none))
    (subst (λ (m : M). HoldsLog (AcceptsRequest Step m) log' requests journal'.held) (sym same)
    (subst (λ (j : JournalState). HoldsLog (AcceptsRequest Step old) log' requests j.held) (sym journal_same)
    (subst (λ (l : LogState). HoldsLog (AcceptsRequest Step old) l requests journal.held) (sym log_same) holds)))
holds_after Step old next log log' journal journal' request reply edit requests (entered made is step can adds) holds =
    subst (λ (rs : List Request). HoldsLog (AcceptsRequest Step next) log' rs journal'.held) (ap (λ e. requests ++ accepted_requests request e) (sym is))
    (subst (λ (l : LogState). HoldsLog (AcceptsRequest Step next) l (requests ++ recorded_request request ∷ []) journal'.held) (sym adds.0)
    (holds_added (AcceptsRequest Step old) log requests journal.held journal'.held request can holds (AcceptsRequest Step next) adds.1))
holds_after {M} Step old next log log' journal journal' request reply edit requests (not_entered none accepts is same can adds) holds =
    subst (λ (rs : List Request). HoldsLog (AcceptsRequest Step next) log' rs journal'.held) (sym (append-nil requests) ∙ ap (λ e. requests ++ accepted_requests request e) (sym none))
    (subst (λ (m : M). HoldsLog (AcceptsRequest Step m) log' requests journal'.held) (sym same)
    (subst (λ (l : LogState). HoldsLog (AcceptsRequest Step old) l requests journal'.held) (sym adds.0)
    (holds_kept (AcceptsRequest Step old) log requests journal.held journal'.held request can holds accepts adds.1)))

-- what another test would accept, too
pub holds_so : (P Q : Request → Type 0) (log : LogState) (requests : List Request) (bytes : List ℕ) → ((request : Request) → P request → Q request) → HoldsLog P log requests bytes → HoldsLog Q log requests bytes
holds_so P Q log requests bytes so h = record { rest = h.rest; recorded = h.recorded; split = h.split; len = h.len; behind = by_torn log.is_torn h.behind }
  where
    by_torn : (is_torn : Bool) → MatchBool is_torn ((request : Request) × IsRecordable request × P request × IsPrefixOf h.rest (record_of request)) (h.rest ≡ [])
        → MatchBool is_torn ((request : Request) × IsRecordable request × Q request × IsPrefixOf h.rest (record_of request)) (h.rest ≡ [])
    by_torn true b = (b.0, b.1, so b.0 b.2, b.3)
    by_torn false b = b

-- ---- how many records couldn't be added

bound_rises : (n before mid now : ℕ) → CountRises mid now → CountRisesBy n before mid → CountRisesBy (n + 1) before now
bound_rises n before mid now rose b = omega (arith, rose, b)

-- ---- one request after the other

module _ {S M E : Type 0} (old new : S) (Step : M → Request → SentReply → M → Option E → Type 0) (view : S → JournaledMachineState M) where
  abbrev Steps : S → Request → SentReply → S → Option E → Type 0
  Steps now request reply next edit = JournaledMachineStep Step (view now) request reply (view next) edit

  -- Since the start only calls on the same journal happened.
  pub record GoesOn (start now : JournaledMachineState M) : Type 0 where
    pub goes : IsJournalProgress start.journal now.journal
    pub fits : LogFitsJournal now.log now.journal
    pub same_machine : now.machine_name ≡ start.machine_name
    pub same_log : now.log_name ≡ start.log_name
    pub same_journal : now.journal_name ≡ start.journal_name

  goes_further : (start now next : JournaledMachineState M) (request : Request) (reply : SentReply) (edit : Option E) → GoesOn start now → JournaledMachineStep Step now request reply next edit → GoesOn start next
  goes_further start now next request reply edit g s = record {
    goes = goes_on start.journal now.journal next.journal g.goes s.goes;
    fits = s.fits;
    same_machine = s.same_machine ∙ g.same_machine;
    same_log = s.same_log ∙ g.same_log;
    same_journal = s.same_journal ∙ g.same_journal;
  }

  -- the journal and the counts agree
  record Balances (faults : ℕ) (now : JournaledMachineState M) (books : LoggedMachineState M) : Type 0 where
    same : now.machine ≡ books.machine
    holds : HoldsLog (AcceptsRequest Step books.machine) now.log books.requests now.journal.held
    bound : CountRisesBy books.failures faults now.journal.faults

  balances_on : (faults : ℕ) (now next : JournaledMachineState M) (books : LoggedMachineState M) (request : Request) (reply : SentReply) (edit : Option E) → Balances faults now books
      → AnswersWithJournal Step (record { machine = now.machine; log = now.log; journal = now.journal }) request reply (record { machine = next.machine; log = next.log; journal = next.journal }) edit
      → (books' : LoggedMachineState M) × Balances faults next books' × LoggedStep Step books request reply books' edit
  balances_on faults now next books request reply edit b answers =
      let here : AnswersWithJournal Step (record { machine = books.machine; log = now.log; journal = now.journal }) request reply (record { machine = next.machine; log = next.log; journal = next.journal }) edit =
      subst (λ (m : M). AnswersWithJournal Step (record { machine = m; log = now.log; journal = now.journal }) request reply (record { machine = next.machine; log = next.log; journal = next.journal }) edit) b.same answers in
      let holds = holds_after Step books.machine next.machine now.log next.log now.journal next.journal request reply edit books.requests here b.holds in
      by_answer here holds
    where
      by_answer : AnswersWithJournal Step (record { machine = books.machine; log = now.log; journal = now.journal }) request reply (record { machine = next.machine; log = next.log; journal = next.journal }) edit → HoldsLog (AcceptsRequest Step next.machine) next.log (books.requests ++ accepted_requests request edit) next.journal.held
          → (books' : LoggedMachineState M) × Balances faults next books' × LoggedStep Step books request reply books' edit
      by_answer (stays none step same log journal) holds = (
        record { machine = next.machine; requests = books.requests ++ accepted_requests request edit; failures = books.failures },
        record { same = refl; holds = holds; bound = subst (λ (j : JournalState). CountRisesBy books.failures faults j.faults) (sym journal) b.bound },
        answered (subst (λ (e : Option E). Step books.machine request reply next.machine e) (sym none) step) refl refl,
      )
      by_answer (entered made is step can adds) holds = (
        record { machine = next.machine; requests = books.requests ++ accepted_requests request edit; failures = books.failures },
        record { same = refl; holds = holds; bound = subst (CountRisesBy books.failures faults) (sym adds.2) b.bound },
        answered (subst (λ (e : Option E). Step books.machine request reply next.machine e) (sym is) step) refl refl,
      )
      by_answer (not_entered none accepts is same can adds) holds =
          let none_more : books.requests ++ accepted_requests request edit ≡ books.requests = ap (λ (e : Option E). books.requests ++ accepted_requests request e) none ∙ append-nil books.requests in (
            record books { failures = books.failures + 1 },
            record {
              same = same;
              holds = subst (λ (m : M). HoldsLog (AcceptsRequest Step m) next.log books.requests next.journal.held) same
                  (subst (λ (rs : List Request). HoldsLog (AcceptsRequest Step next.machine) next.log rs next.journal.held) none_more holds);
              bound = bound_rises books.failures faults now.journal.faults next.journal.faults adds.2 b.bound;
            },
            not_logged accepts is refl none,
          )

  -- ---- the connections of a port

  module _ {W : Type 0} (Keeps : List E → W → W → Type 0) (most : ℕ) (served : ServeSummary) (port port' : StreamState) (watchers watchers' : W)
      (all : ServesPort (StepsInBytes Steps) Keeps (record { most = most; served = served }) (record { machine = old; stream = port; watchers = watchers }) (record { machine = new; stream = port'; watchers = watchers' })) where
    -- any step of a machine with one state
    abbrev any_step : Unit {0} → Request → List ℕ → Unit {0} → Option E → Type 0
    any_step m request bytes next edit = Unit {0}

    further : (s s' : S) (m : Unit {0}) (request : Request) (bytes : List ℕ) (edit : Option E) → GoesOn (view old) (view s) → StepsInBytes Steps s request bytes s' edit
        → (m' : Unit {0}) × GoesOn (view old) (view s') × any_step m request bytes m' edit
    further s s' m request bytes edit g a = (tt, goes_further (view old) (view s) (view s') request a.reply edit g a.step, tt)

    -- the references are unchanged, and only calls on the journal happened
    pub port_goes : LogFitsJournal (view old).log (view old).journal → GoesOn (view old) (view new)
    port_goes fits =
        let first : GoesOn (view old) (view old) = record { goes = goes_none (view old).journal; fits = fits; same_machine = refl; same_log = refl; same_journal = refl } in
        (port_by (StepsInBytes Steps) any_step (λ (s : S) (m : Unit {0}). GoesOn (view old) (view s)) further Keeps most served old new tt port port' watchers watchers' first all).1

    balanced : (s s' : S) (books : LoggedMachineState M) (request : Request) (bytes : List ℕ) (edit : Option E) → Balances (view old).journal.faults (view s) books → StepsInBytes Steps s request bytes s' edit
        → (books' : LoggedMachineState M) × Balances (view old).journal.faults (view s') books' × StepsInBytes (LoggedStep Step) books request bytes books' edit
    balanced s s' books request bytes edit b a =
        let o = balances_on (view old).journal.faults (view s) (view s') books request a.reply edit b a.step.answers in
        (o.0, o.1, record { reply = a.reply; written = a.written; step = o.2 })

    -- what was served
    pub port_logged : (requests : List Request) → HoldsLog (AcceptsRequest Step (view old).machine) (view old).log requests (view old).journal.held
        → ServesLogged Step Keeps (record { most = most; served = served }) requests (record { machine = record { machine = (view old).machine; log = (view old).log; journal = (view old).journal }; stream = port; watchers = watchers }) (record { machine = record { machine = (view new).machine; log = (view new).log; journal = (view new).journal }; stream = port'; watchers = watchers' })
    port_logged requests holds =
        let books : LoggedMachineState M = record { machine = (view old).machine; requests = requests; failures = 0 } in
        let first : Balances (view old).journal.faults (view old) books = record { same = refl; holds = holds; bound = omega arith } in
        let o = port_by (StepsInBytes Steps) (StepsInBytes (LoggedStep Step)) (λ (s : S) (b : LoggedMachineState M). Balances (view old).journal.faults (view s) b) balanced Keeps most served old new books port port' watchers watchers' first all in
        subst (λ (m : M). ServesLogged Step Keeps (record { most = most; served = served }) requests (record { machine = record { machine = (view old).machine; log = (view old).log; journal = (view old).journal }; stream = port; watchers = watchers }) (record { machine = record { machine = m; log = (view new).log; journal = (view new).journal }; stream = port'; watchers = watchers' })) (sym o.1.same)
        (record {
          accepted = o.0.requests;
          failures = o.0.failures;
          serves = o.2;
          holds = o.1.holds;
          bound = o.1.bound;
        })
