-- What `keep` writes, and what a next run makes of it.
use Rattle.std.proofs.Common.{◌≡◌, ◌≢◌, ◌⊎◌, ℕ, inl, inr, true, false, List, [], ◌∷◌, ◌++◌, length, take, drop, All, Option, None, Some, refl, sym, ap, ◌∙◌, subst, arith, append-nil, append_assoc, take-append-drop}
use Rattle.std.proofs.lemmas.List.{append_cancel_left}
use Rattle.std.proofs.lemmas.List.Elements.{All-cons, All-nil}
use Rattle.doc_names.specs.declared.doc_id.DocId.{DocId}
use Rattle.edit_ops.specs.declared.edit.Edit.{Edit}
use Rattle.http_wire.specs.declared.request.Request.{Request}
use Rattle.http_serve.specs.ReplyBytes.{StepsInBytes}
use Rattle.http_serve.specs.declared.accept_loop.ServeSummary.{ServeSummary}
use Rattle.http_serve.proofs.Simulations.{port_by}
use Rattle.reply_text.specs.ReplyHeads.{SentReply}
use Rattle.xcap_io.specs.StreamStates.{CountRises, StreamState}
use Rattle.xcap_io.specs.Connections.{with_listening_address}
use Rattle.xcap_io.specs.StreamTraffic.{GivesBytes, TakesBytes}
use Rattle.edit_journal.specs.JournalPrefixes.{IsJournalPrefix}
use Rattle.edit_journal.specs.Journals.{IsPrefixOf, JournalState}
use Rattle.edit_journal.specs.declared.limits.TheConstants.{MAX_JOURNAL_BYTES}
use Rattle.edit_journal.specs.LoggedRequests.{AcceptsRequest}
use Rattle.edit_journal.specs.LoggedMachines.{LoggedMachineState, LoggedStep, answered, not_logged}
use Rattle.edit_journal.specs.JournalLogs.{LogState}
use Rattle.edit_journal.specs.Records.{IsRecordable, record_of}
use Rattle.edit_journal.specs.JournalTexts.{BeginsWithRecord, HasNoRecord, IsDamaged, IsRecordedRequest, journal_text}
use Rattle.edit_journal.specs.declared.journal_restart.RestartFault.{RestartFault}
use Rattle.edit_journal.specs.declared.journal_restart.RestartFault.TheVariants as faults
use Rattle.edit_journal.proofs.Beginnings.{begin_alike}
use Rattle.edit_journal.proofs.Broken.{breaks_off, first_of_first, is_torn}
use Rattle.edit_journal.proofs.WholeRecords.{journal_text-append}
use Rattle.edit_journal.proofs.CompleteRequests.{nothing_in, one_whole}
use Rattle.store_core.specs.Contents.{contents_of}
use Rattle.store_core.specs.State.{State, first_state}
use Rattle.store_core.specs.ValidStates.{IsValidState}
use Rattle.xcap_machine.specs.Answers.{Answer, MadeChange, reply_only}
use Rattle.xcap_machine.specs.Machine.{ValidStep, answer_with_edit, change_from_edit}
use Rattle.xcap_machine.specs.Requests.{IsAnswer}
use Rattle.xcap_machine.specs.ServerStates.{ServerState}
use Rattle.xcap_machine.specs.ReachedStates.{ReachesByValidSteps, goes_on as proceeds, stays}
use Rattle.xcap_machine.proofs.OneAnswer.{one_answer}
use Rattle.xcap_server.specs.LoggedServers.{LogsRequests}
use Rattle.xcap_server.specs.ReplayedRequests.{AcceptsRequests}
use Rattle.xcap_server.proofs.RecordedChanges.{comes_to_a_state}
use Rattle.xcap_server.proofs.Ways.{one_way, over}
use Rattle.xcap_app.specs.Exits.{HasAllocatedMessage}
use Rattle.xcap_app.specs.KeepCommand.{FailsToReadJournal, KeepsCommand, EndsKeep, KeepSummary, OldJournal, ReadsJournal, ReadsRecords, ServesLoggedConnections, StopsReading, exit_of_restart, no_server, no_journal, keeps_on, summary_without_failures}
use Rattle.xcap_app.specs.RunStates.{IoStreams, KeepState, ServiceState, keep_journals, keep_service_state}
use Rattle.xcap_app.specs.ServeCommand.{ServiceArguments}
use Rattle.xcap_app.specs.declared.exit.Exit.{Exit}
use Rattle.xcap_app.specs.declared.exit.Exit.TheVariants.{Done, Usage, InputFailed, OutputFailed, NetworkFailed, Refused, Client, BadJournal, BadHostWords, OutOfMemory}
use Rattle.xcap_app.specs.declared.journal_refusal.JournalRefusal.{JournalRefusal}
use Rattle.xcap_app.specs.declared.journal_refusal.JournalRefusal.TheVariants as refusals
use Rattle.xcap_laws.specs.WrittenJournals.{RestartsFromJournal, IsWrittenJournal, ServesAfterJournal}

-- ---- what a run writes

abbrev Written : List ℕ → List ℕ → Type 0
Written root bytes = (all : List Request) × (last : State) × IsWrittenJournal root bytes all last

took_alike : (old new x y : List ℕ) → TakesBytes old new x → TakesBytes old new y → x ≡ y
took_alike old new x y a b = append_cancel_left old x y (sym a ∙ b)

written_as : (root bytes bytes' : List ℕ) → bytes ≡ bytes' → Written root bytes' → Written root bytes
written_as root bytes bytes' same w = subst (λ (x : List ℕ). Written root x) (sym same) w

nothing_written : (root : List ℕ) → Written root []
nothing_written root = ([], first_state 1, record { recorded = All-nil IsRecordedRequest; redone = refl; begins = ([], refl) })

module _ (root : List ℕ) (journal : OldJournal) (input input' : StreamState) (records : ReadsRecords root journal input input') where
  -- first bytes of the records that were read
  some_written : (bytes : List ℕ) → IsPrefixOf bytes (journal_text journal.requests) → Written root bytes
  some_written bytes begins = (journal.requests, journal.state, record { recorded = records.recorded; redone = records.redone; begins = begins })

  all_written : Written root (journal_text journal.requests)
  all_written = some_written (journal_text journal.requests) ([], sym (append-nil (journal_text journal.requests)))

stopped : (root : List ℕ) (fault : RestartFault) (journal : OldJournal) (old new : IoStreams) (bytes : List ℕ) → ReadsRecords root journal old.input new.input
    → StopsReading root fault journal old new → TakesBytes old.output.taken new.output.taken bytes → Written root bytes
stopped root faults.ReadFailed journal old new bytes records stops took =
    written_as root bytes (journal_text journal.requests) (took_alike old.output.taken new.output.taken bytes (journal_text journal.requests) took stops.0) (all_written root journal old.input new.input records)
stopped root faults.AppendFailed journal old new bytes records ((before, last, is, (some, (more, record_is), new_is)), rises) took =
    let same : bytes ≡ journal_text before ++ some = took_alike old.output.taken new.output.taken bytes (journal_text before ++ some) took (new_is ∙ append_assoc old.output.taken (journal_text before) some) in
    let begins : journal_text journal.requests ≡ (journal_text before ++ some) ++ more =
    ap journal_text is ∙ journal_text-append before (last ∷ []) ∙ ap (λ (l : List ℕ). journal_text before ++ l) (append-nil (record_of last) ∙ record_is) ∙ sym (append_assoc (journal_text before) some more) in
    written_as root bytes (journal_text before ++ some) same (some_written root journal old.input new.input records (journal_text before ++ some) (more, begins))
stopped root (faults.Damaged place) journal old new bytes records stops took =
    written_as root bytes (journal_text journal.requests) (took_alike old.output.taken new.output.taken bytes (journal_text journal.requests) took stops.0) (all_written root journal old.input new.input records)
stopped root (faults.Refused number) journal old new bytes records stops took =
    written_as root bytes (journal_text journal.requests) (took_alike old.output.taken new.output.taken bytes (journal_text journal.requests) took stops.0) (all_written root journal old.input new.input records)
stopped root faults.TooLong journal old new bytes records stops took =
    written_as root bytes (journal_text journal.requests) (took_alike old.output.taken new.output.taken bytes (journal_text journal.requests) took stops.0) (all_written root journal old.input new.input records)
stopped root faults.NoMemory journal old new bytes records (before, more, is, all) took =
    written_as root bytes (journal_text before) (took_alike old.output.taken new.output.taken bytes (journal_text before) took all)
    (some_written root journal old.input new.input records (journal_text before) (journal_text more, ap journal_text is ∙ journal_text-append before more))

-- the records of accepted requests, and after them at most some first bytes of one more
module _ (root : List ℕ) (accepted : List Request) (next : State) (valid : IsValidState next) (redone : AcceptsRequests root (first_state 1) accepted next) (recorded : All IsRecordedRequest accepted) where
  abbrev server : ServerState
  server = record { root = root; content = contents_of next }

  abbrev journal_of : List ℕ → JournalState
  journal_of rest = record { held = journal_text accepted ++ rest; before = []; faults = 0; beneath = 0; holds = []; aside = [] }

  abbrev torn_log : LogState
  torn_log = record { len = length (journal_text accepted); is_torn = true }

  logs : (rest : List ℕ) (request : Request) → IsRecordable request → AcceptsRequest (ValidStep root) next request → IsPrefixOf rest (record_of request) → LogsRequests server torn_log (journal_of rest) accepted
  logs rest request can accepts begins = record {
    stands = record { state = next; kept = valid; redone = redone; stands = refl };
    holds = record { rest = rest; recorded = recorded; split = refl; len = refl; behind = (request, can, accepts, begins) };
  }

  torn_written : (rest : List ℕ) (request : Request) → IsRecordable request → AcceptsRequest (ValidStep root) next request → IsPrefixOf rest (record_of request) → Written root (journal_text accepted ++ rest)
  torn_written rest request can accepts begins =
      let all = comes_to_a_state server torn_log (journal_of rest) accepted (journal_text accepted ++ rest) (logs rest request can accepts begins) ([], sym (append-nil (journal_text accepted ++ rest))) in
      (accepted ++ all.0, all.1, record { recorded = all.4; redone = all.5; begins = all.6 })

  pub accepted_written : (rest : List ℕ)
      → ((rest ≡ []) ⊎ ((request : Request) × IsRecordable request × AcceptsRequest (ValidStep root) next request × IsPrefixOf rest (record_of request))) → Written root (journal_text accepted ++ rest)
  accepted_written rest (inl none) =
      (accepted, next, record { recorded = recorded; redone = redone; begins = ([], sym (append-nil (journal_text accepted)) ∙ ap (λ (l : List ℕ). journal_text accepted ++ l) (sym none) ∙ sym (append-nil (journal_text accepted ++ rest))) })
  accepted_written rest (inr (request, can, accepts, begins)) = torn_written rest request can accepts begins

module _ {W : Type 0} (Keeps : List Edit → W → W → Type 0) where
  served_written : (arguments : ServiceArguments) (kept : KeepSummary) (journal : OldJournal) (old new : ServiceState W) (taken taken' bytes : List ℕ) (HasFailed : Type 0)
      → ServesLoggedConnections Keeps (TakesBytes taken taken') HasFailed arguments kept journal old new → TakesBytes taken taken' bytes → Written arguments.root bytes
  served_written arguments kept journal old new taken taken' bytes HasFailed s took =
      written_as arguments.root bytes (journal_text s.accepted ++ kept.rest) (took_alike taken taken' bytes (journal_text s.accepted ++ kept.rest) took s.written)
      (accepted_written arguments.root s.accepted s.next s.valid s.redone s.recorded kept.rest s.behind)

  kept_written : (arguments : ServiceArguments) (exit : Exit) (journal : OldJournal) (old new : ServiceState W) (input input' : StreamState) (taken taken' bytes : List ℕ) (HasFailed : Type 0)
      → ReadsRecords arguments.root journal input input' → EndsKeep Keeps (TakesBytes taken taken') HasFailed arguments exit journal old new → TakesBytes taken taken' bytes → Written arguments.root bytes
  kept_written arguments Done journal old new input input' taken taken' bytes HasFailed records (served, s, complete) took =
      served_written arguments (summary_without_failures served) journal old new taken taken' bytes HasFailed s took
  kept_written arguments OutputFailed journal old new input input' taken taken' bytes HasFailed records (kept, s, failed) took = served_written arguments kept journal old new taken taken' bytes HasFailed s took
  kept_written arguments NetworkFailed journal old new input input' taken taken' bytes HasFailed records (inl (listens, is, same)) took =
      written_as arguments.root bytes (journal_text journal.requests) (took_alike taken taken' bytes (journal_text journal.requests) took is) (all_written arguments.root journal input input' records)
  kept_written arguments NetworkFailed journal old new input input' taken taken' bytes HasFailed records (inr (served, s, stop)) took =
      served_written arguments (summary_without_failures served) journal old new taken taken' bytes HasFailed s took
  kept_written arguments Usage journal old new input input' taken taken' bytes HasFailed records h took = absurd h
  kept_written arguments InputFailed journal old new input input' taken taken' bytes HasFailed records h took = absurd h
  kept_written arguments (Refused refusal) journal old new input input' taken taken' bytes HasFailed records h took = absurd h
  kept_written arguments (Client fault) journal old new input input' taken taken' bytes HasFailed records h took = absurd h
  kept_written arguments (BadJournal refusal) journal old new input input' taken taken' bytes HasFailed records h took = absurd h
  kept_written arguments (BadHostWords fault) journal old new input input' taken taken' bytes HasFailed records h took = absurd h
  kept_written arguments OutOfMemory journal old new input input' taken taken' bytes HasFailed records h took = absurd h

  pub writes_records : (arguments : ServiceArguments) (exit : Exit) (old new : KeepState W) (bytes : List ℕ) → KeepsCommand Keeps arguments exit old new → TakesBytes old.output.taken new.output.taken bytes
      → (all : List Request) × (last : State) × IsWrittenJournal arguments.root bytes all last
  writes_records arguments exit old new bytes (no_server out same) took =
      let none : bytes ≡ [] =
      append_cancel_left old.output.taken bytes [] (sym took ∙ ap (λ (k : KeepState W). k.output.taken) same ∙ sym (append-nil old.output.taken)) in
      written_as arguments.root bytes [] none (nothing_written arguments.root)
  writes_records arguments exit old new bytes (no_journal fault reported read port watchers) took =
      stopped arguments.root fault read.journal (keep_journals old) (keep_journals new) bytes read.records read.stops took
  writes_records arguments exit old new bytes (keeps_on journal reads just on) took =
      kept_written arguments exit journal (keep_service_state old) (keep_service_state new) old.input new.input old.output.taken new.output.taken bytes (CountRises old.output.write_faults new.output.write_faults) reads.records on took

-- ---- what a next run reads

module _ (root written : List ℕ) (all : List Request) (last : State) (is : IsWrittenJournal root written all last) where
  -- the requests that were read are the first of all, and the others go on from their state
  module _ (requests : List Request) (rest bytes : List ℕ) (state : State) (recorded : All IsRecordedRequest requests) (redone : AcceptsRequests root (first_state 1) requests state) (split : bytes ≡ journal_text requests ++ rest)
      (begins : IsPrefixOf bytes written) where
    in_all : IsPrefixOf bytes (journal_text all)
    in_all = first_of_first bytes written (journal_text all) begins is.begins

    from_there : (left : List Request) → all ≡ requests ++ left → AcceptsRequests root state left last
    from_there left parts =
        let way = over root requests left (first_state 1) last (subst (λ (rs : List Request). AcceptsRequests root (first_state 1) rs last) parts is.redone) in
        subst (λ (s : State). AcceptsRequests root s left last) (one_way root requests (first_state 1) way.0 state way.1 redone) way.2

    alike : (left : List Request) × (all ≡ requests ++ left) × (journal_text left ≡ rest ++ in_all.0) × All IsRecordedRequest left
    alike = begin_alike requests all (rest ++ in_all.0) recorded is.recorded (in_all.1 ∙ ap (λ (l : List ℕ). l ++ in_all.0) split ∙ append_assoc (journal_text requests) rest in_all.0)

    undamaged : IsDamaged rest → ⊥
    undamaged (none, not_torn) =
        let broken = breaks_off all requests bytes rest is.recorded in_all (record { recorded = recorded; split = split; no_more = none }) in
        not_torn (is_torn broken.0 rest broken.2 broken.1.torn)

    -- the next request makes a change
    accepted : (request : Request) (more : List ℕ) (reply : SentReply) → BeginsWithRecord rest request more → IsAnswer root (contents_of state) request (reply_only reply) → ⊥
    accepted request more reply (one, front) answers =
        let here = alike in
        let text_is : journal_text here.0 ≡ journal_text (request ∷ []) ++ (more ++ in_all.0) =
        here.2 ∙ ap (λ (l : List ℕ). l ++ in_all.0) front ∙ append_assoc (record_of request) more in_all.0
        ∙ ap (λ (l : List ℕ). l ++ (more ++ in_all.0)) (sym (append-nil (record_of request))) in
        let others = begin_alike (request ∷ []) here.0 (more ++ in_all.0) (All-cons IsRecordedRequest request [] one (All-nil IsRecordedRequest)) here.3 text_is in
        changes others.0 (subst (λ (rs : List Request). AcceptsRequests root state rs last) others.1 (from_there here.0 here.1))
      where
        changes : (others : List Request) → AcceptsRequests root state (request ∷ others) last → ⊥
        changes others (reply', mid, edit, step, later) =
            let same = one_answer root (contents_of state) request (answer_with_edit reply' (Some edit)) (reply_only reply) step.1.answers answers in
            let no : ◌≡◌ {A = Option MadeChange} (Some (change_from_edit edit)) None = ap (λ (a : Answer). a.made) same in
            cc

module _ {W : Type 0} (Keeps : List Edit → W → W → Type 0) where
  bad_stop : (arguments : ServiceArguments) (fault : RestartFault) (refusal : JournalRefusal) (old new : IoStreams) (journal : OldJournal) (written : List ℕ) (all : List Request) (last : State)
      → IsWrittenJournal arguments.root written all last → IsPrefixOf (take MAX_JOURNAL_BYTES journal.bytes) written → ReadsRecords arguments.root journal old.input new.input
      → StopsReading arguments.root fault journal old new → exit_of_restart fault ≡ BadJournal refusal → refusal ≡ refusals.TooLong
  bad_stop arguments faults.ReadFailed refusal old new journal written all last is begins records stops e = absurd (let no : ⊥ = cc in no)
  bad_stop arguments faults.AppendFailed refusal old new journal written all last is begins records stops e = absurd (let no : ⊥ = cc in no)
  bad_stop arguments (faults.Damaged place) refusal old new journal written all last is begins records stops e =
      absurd (undamaged arguments.root written all last is journal.requests journal.rest (take MAX_JOURNAL_BYTES journal.bytes) journal.state records.recorded records.redone records.split begins stops.1)
  bad_stop arguments (faults.Refused number) refusal old new journal written all last is begins records stops e =
      let (request, more, reply, front, answers) = stops.2 in
      absurd (accepted arguments.root written all last is journal.requests journal.rest (take MAX_JOURNAL_BYTES journal.bytes) journal.state records.recorded records.redone records.split begins request more reply front answers)
  bad_stop arguments faults.TooLong refusal old new journal written all last is begins records stops e = let same : refusals.TooLong ≡ refusal = cc in sym same
  bad_stop arguments faults.NoMemory refusal old new journal written all last is begins records stops e = absurd (let no : ⊥ = cc in no)

  -- a run over some first bytes of what was written can only be refused where they are too long
  only_too_long : (arguments : ServiceArguments) (exit : Exit) (old new : KeepState W) (written bytes : List ℕ) (all : List Request) (last : State) → IsWrittenJournal arguments.root written all last
      → IsPrefixOf bytes written → GivesBytes old.input.inward new.input.inward bytes → KeepsCommand Keeps arguments exit old new → (refusal : JournalRefusal) → exit ≡ BadJournal refusal → refusal ≡ refusals.TooLong
  only_too_long arguments exit old new written bytes all last is begins gave (no_server out same) refusal e = absurd (let no : OutOfMemory ≡ BadJournal refusal = sym out ∙ e in let f : ⊥ = cc in f)
  only_too_long arguments exit old new written bytes all last is begins gave (no_journal fault (inl recorded) read port watchers) refusal e =
      let same : bytes ≡ read.journal.bytes = append_cancel_left old.input.inward.given bytes read.journal.bytes (sym gave.behind ∙ read.records.given.behind) in
      bad_stop arguments fault refusal (keep_journals old) (keep_journals new) read.journal written all last is
      (first_of_first (take MAX_JOURNAL_BYTES read.journal.bytes) bytes written (subst (λ (x : List ℕ). IsPrefixOf (take MAX_JOURNAL_BYTES read.journal.bytes) x) (sym same) (front_of read.journal.bytes)) begins)
      read.records read.stops (sym recorded ∙ e)
    where
      front_of : (x : List ℕ) → IsPrefixOf (take MAX_JOURNAL_BYTES x) x
      front_of x = (drop MAX_JOURNAL_BYTES x, sym (take-append-drop MAX_JOURNAL_BYTES x))
  only_too_long arguments exit old new written bytes all last is begins gave (no_journal fault (inr (refused, out)) read port watchers) refusal e =
      absurd (let no : OutOfMemory ≡ BadJournal refusal = sym out ∙ e in let f : ⊥ = cc in f)
  only_too_long arguments exit old new written bytes all last is begins gave (keeps_on journal reads just on) refusal e =
      absurd (subst (λ (x : Exit). EndsKeep Keeps (TakesBytes old.output.taken new.output.taken) (CountRises old.output.write_faults new.output.write_faults) arguments x journal (keep_service_state old) (keep_service_state new)) e on)

  pub never_refused : (arguments : ServiceArguments) (exit : Exit) (old new : KeepState W) (written bytes : List ℕ) (all : List Request) (last : State) → IsWrittenJournal arguments.root written all last
      → IsPrefixOf bytes written → GivesBytes old.input.inward new.input.inward bytes → KeepsCommand Keeps arguments exit old new
      → ((place : ℕ) → exit ≢ BadJournal (refusals.Damaged place)) × ((number : ℕ) → exit ≢ BadJournal (refusals.Refused number))
  never_refused arguments exit old new written bytes all last is begins gave command = (
    (λ place e. let no : refusals.Damaged place ≡ refusals.TooLong = only_too_long arguments exit old new written bytes all last is begins gave command (refusals.Damaged place) e in cc),
    (λ number e. let no : refusals.Refused number ≡ refusals.TooLong = only_too_long arguments exit old new written bytes all last is begins gave command (refusals.Refused number) e in cc),
  )

pub comes_back : (root written : List ℕ) (journal : OldJournal) (all : List Request) (last : State) (input input' : StreamState) → IsWrittenJournal root written all last → IsPrefixOf journal.bytes written
    → ReadsJournal root journal input input' → RestartsFromJournal root journal all last
comes_back root written journal all last input input' is begins reads =
    let inside = first_of_first journal.bytes written (journal_text all) begins is.begins in
    let broken = breaks_off all journal.requests journal.bytes journal.rest is.recorded inside reads.whole in
    record {
      left = broken.0;
      whole = broken.1;
      goes_on = from_there root written all last is journal.requests journal.rest journal.bytes journal.state reads.records.recorded reads.records.redone reads.whole.split begins broken.0 broken.1.requests;
    }

-- ---- the next run goes on

proceeds_by : (root : List ℕ) (m n next : State) (request : Request) (reply : SentReply) (edit : Option Edit) → ReachesByValidSteps root m n → ValidStep root n request reply next edit → ReachesByValidSteps root m next
proceeds_by root _ _ next request reply edit (stays m) step = proceeds m next next request reply edit step (stays next)
proceeds_by root _ _ next request reply edit (proceeds m mid n request' reply' edit' first more) step =
    proceeds m mid next request' reply' edit' first (proceeds_by root mid n next request reply edit more step)

abbrev any_step : Unit {0} → Request → List ℕ → Unit {0} → Option Edit → Type 0
any_step m request bytes next edit = Unit {0}

module _ (root : List ℕ) (start : State) where
  abbrev Reached : LoggedMachineState State → Unit {0} → Type 0
  Reached b m = ReachesByValidSteps root start b.machine

  reached : (b b' : LoggedMachineState State) (m : Unit {0}) (request : Request) (bytes : List ℕ) (edit : Option Edit) → Reached b m → StepsInBytes (LoggedStep (ValidStep root)) b request bytes b' edit
      → (m' : Unit {0}) × Reached b' m' × any_step m request bytes m' edit
  reached b b' m request bytes edit here a = (tt, by a.step, tt)
    where
      by : LoggedStep (ValidStep root) b request a.reply b' edit → ReachesByValidSteps root start b'.machine
      by (answered step requests failures) = proceeds_by root start b.machine b'.machine request a.reply edit here step
      by (not_logged accepts is same none) = subst (λ (x : LoggedMachineState State). ReachesByValidSteps root start x.machine) (sym same) here

module _ {W : Type 0} (Keeps : List Edit → W → W → Type 0) where
  served_on : (arguments : ServiceArguments) (kept : KeepSummary) (journal : OldJournal) (old new : KeepState W) (run : ServesAfterJournal Keeps arguments kept journal old new) → ReachesByValidSteps arguments.root journal.state run.next
  served_on arguments kept journal old new run =
      (port_by (StepsInBytes (LoggedStep (ValidStep arguments.root))) any_step (Reached arguments.root journal.state) (reached arguments.root journal.state) Keeps arguments.count kept.served
      (record { machine = journal.state; requests = journal.requests; failures = 0 }) (record { machine = run.next; requests = run.accepted; failures = kept.failures }) tt
      (with_listening_address old.port arguments.address) new.port old.watchers new.watchers (stays journal.state) run.serves).1

  pub goes_on : (first next : ServiceArguments) (served : ServeSummary) (kept : KeepSummary) (before between : OldJournal) (old new old' new' : KeepState W) → next.root ≡ first.root
      → (run : ServesAfterJournal Keeps first (summary_without_failures served) before old new) → TakesBytes old.output.taken new.output.taken between.bytes → ReadsJournal next.root between old'.input new'.input
      → (run' : ServesAfterJournal Keeps next kept between old' new') → (between.state ≡ run.next) × ReachesByValidSteps next.root run.next run'.next
  goes_on first next served kept before between old new old' new' same run took reads run' =
      let bytes : between.bytes ≡ journal_text run.accepted ++ [] = took_alike old.output.taken new.output.taken between.bytes (journal_text run.accepted ++ []) took run.written in
      let requests : between.requests ≡ run.accepted = (one_whole between.bytes between.requests run.accepted between.rest [] reads.whole (record { recorded = run.recorded; split = bytes; no_more = nothing_in })).0 in
      let redone : AcceptsRequests next.root (first_state 1) between.requests run.next =
      subst (λ (r : List ℕ). AcceptsRequests r (first_state 1) between.requests run.next) (sym same) (subst (λ (rs : List Request). AcceptsRequests first.root (first_state 1) rs run.next) (sym requests) run.redone) in
      let state : between.state ≡ run.next = one_way next.root between.requests (first_state 1) between.state run.next reads.records.redone redone in
      (state, subst (λ (s : State). ReachesByValidSteps next.root s run'.next) state (served_on next kept between old' new' run'))
