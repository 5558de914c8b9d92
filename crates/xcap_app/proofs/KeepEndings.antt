-- How `keep` ends, by what its old journal, its new one and the port did.
use Rattle.std.proofs.Common.{◌≡◌, ℕ, ◌<◌, ◌≤◌, ◌⊎◌, inl, inr, Bool, true, false, nat_lt, List, [], ◌++◌, length, take, All, Result, Ok, Err, refl, sym, ap, subst, ◌∙◌, arith, append-nil, length-append}
use Rattle.std.proofs.lemmas.Bool.Decides.{nat_tests}
use Rattle.std.proofs.lemmas.List.{length-take, take_all}
use Rattle.std.specs.Bool.{MatchBool}
use Rattle.edit_ops.specs.declared.edit.Edit.{Edit}
use Rattle.http_wire.specs.declared.request.Request.{Request}
use Rattle.xcap_io.specs.StreamStates.{StreamState, CountRises, CountRisesBy}
use Rattle.xcap_io.specs.Connections.{with_listening_address}
use Rattle.edit_journal.specs.Journals.{IsPrefixOf, JournalState}
use Rattle.edit_journal.specs.JournalLogs.{LogFitsJournal, LogState}
use Rattle.edit_journal.specs.Records.{IsRecordable, record_of}
use Rattle.edit_journal.specs.declared.limits.TheConstants.{MAX_JOURNAL_BYTES}
use Rattle.edit_journal.specs.Restarts.{RestartsReplayer}
use Rattle.edit_journal.specs.JournalTexts.{IsRecordedRequest, journal_text}
use Rattle.edit_journal.specs.declared.journal_restart.RestartFault.{RestartFault}
use Rattle.edit_journal.specs.declared.journal_restart.RestartFault.TheVariants as faults
use Rattle.http_serve.specs.ServedPorts.{ServesPort}
use Rattle.http_serve.specs.ReplyBytes.{StepsInBytes}
use Rattle.http_serve.specs.declared.accept_loop.ServeSummary.{ServeSummary}
use Rattle.http_serve.specs.declared.accept_loop.StopReason.TheVariants.{PortFailed}
use Rattle.edit_journal.specs.LoggedMachines.{LoggedMachineState, HoldsLog, LoggedStep}
use Rattle.edit_journal.specs.LoggedRequests.{AcceptsRequest}
use Rattle.store_core.specs.Contents.{StoreContents, contents_of, first_contents}
use Rattle.store_core.specs.State.{State, first_state}
use Rattle.store_core.proofs.KeptAfter.{kept-first}
use Rattle.xcap_machine.specs.Answers.{reply_only}
use Rattle.xcap_machine.specs.Requests.{IsAnswer}
use Rattle.xcap_machine.specs.Machine.{ValidStep}
use Rattle.xcap_server.specs.LoggedServers.{ServesPortLogged}
use Rattle.xcap_server.specs.ReplayedRequests.{AcceptsRequests, RefusesRequest, ResultsFromRequests}
use Rattle.xcap_machine.specs.ServerStates.{ServerState}
use Rattle.xcap_app.specs.KeepCommand.{FailsToReadJournal, EndsKeep, KeepSummary, OldJournal, ReadsJournal, ReadsRecords, ServesLoggedConnections, StopsReading, summary_without_failures}
use Rattle.xcap_app.specs.RunStates.{ServiceState}
use Rattle.xcap_app.specs.ServeCommand.{IsCompleteStop, ServiceArguments}
use Rattle.xcap_app.specs.declared.exit.Exit.{Exit}
use Rattle.xcap_app.specs.declared.exit.Exit.TheVariants.{Done, Usage, InputFailed, OutputFailed, NetworkFailed, Refused, Client, BadJournal, BadHostWords, OutOfMemory}
use Rattle.xcap_app.specs.inner.JournalOutputs.{UsesOnlyJournal}
use Rattle.xcap_app.proofs.Streams.{adds_some, wrote}

-- ---- the old journal

-- a server without documents stands for no requests
pub stands_for_none : (s : ServerState) → s.content ≡ first_contents 1 → ResultsFromRequests s []
stands_for_none s empty = record { state = first_state 1; kept = kept-first 1 (omega arith); redone = refl; stands = empty }

module _ (input input' : StreamState) (journal journal' : JournalState) (s s' : ServerState) (empty : s.content ≡ first_contents 1) (about : s'.root ≡ s.root) where
  abbrev Restarted : Result LogState RestartFault → Type 0
  Restarted result = RestartsReplayer ResultsFromRequests RefusesRequest (record { source = input; journal = journal; replayer = s }) (record { source = input'; journal = journal'; replayer = s' }) result

  abbrev old_journal : (result : Result LogState RestartFault) (r : Restarted result) → State → OldJournal
  old_journal result r state = record { bytes = r.bytes; requests = r.requests; rest = r.rest; state = state }

  -- the records that were read
  records_read : (result : Result LogState RestartFault) (r : Restarted result) → (stood : ResultsFromRequests s' r.requests) × ReadsRecords s.root (old_journal result r stood.state) input input'
  records_read result r =
      let stood : ResultsFromRequests s' r.requests = r.stood [] (stands_for_none s empty) in (
        stood,
        record {
          given = r.given;
          recorded = r.recorded;
          split = r.split;
          redone = subst (λ (root : List ℕ). AcceptsRequests root (first_state 1) r.requests stood.state) about stood.redone;
          kept = stood.kept;
          reads = r.reads;
        },
      )

  -- all of them
  pub journal_read : (log : LogState) (r : Restarted (Ok log)) → (stood : ResultsFromRequests s' r.requests) × ReadsJournal s.root (old_journal (Ok log) r stood.state) input input'
  journal_read log r =
      let records = records_read (Ok log) r in (
        records.0,
        record {
          records = records.1;
          ended = r.ending.0;
          short = r.ending.1;
          whole = record { recorded = r.recorded; split = sym (take_all MAX_JOURNAL_BYTES r.bytes r.ending.1) ∙ r.split; no_more = r.ending.2 };
          torn = r.ending.3;
          no_fault = r.faults.0;
        },
      )

  module _ (output output' : StreamState) (none : journal.faults ≡ 0) (streams : UsesOnlyJournal output output' journal') where
    -- the new journal failed
    failed : CountRises journal.faults journal'.faults → CountRises output.write_faults output'.write_faults
    failed rose = streams.cause (omega (arith, rose, none))

    stops_so : (fault : RestartFault) (r : Restarted (Err fault)) (stood : ResultsFromRequests s' r.requests)
        → StopsReading s.root fault (old_journal (Err fault) r stood.state) (record { input = input; output = output }) (record { input = input'; output = output' })
    stops_so faults.ReadFailed r stood = (wrote output output' journal' (journal_text r.requests) streams r.ending.0, r.ending.1, r.ending.2, r.faults.0)
    stops_so faults.AppendFailed r stood =
        let e = r.ending in
        ((e.0, e.1, e.2, adds_some output output' journal' (journal_text e.0) (record_of e.1) streams e.3), failed r.faults.1)
    stops_so (faults.Damaged place) r stood = (wrote output output' journal' (journal_text r.requests) streams r.ending.0, r.ending.1, r.ending.2)
    stops_so (faults.Refused number) r stood =
        let e = r.ending in
        let refused = e.1.3 in
        let answer : IsAnswer s.root (contents_of stood.state) e.1.0 (reply_only refused.0) =
        subst (λ (c : StoreContents). IsAnswer s.root c e.1.0 (reply_only refused.0)) stood.stands (subst (λ (root : List ℕ). IsAnswer root s'.content e.1.0 (reply_only refused.0)) about refused.1) in
        (wrote output output' journal' (journal_text r.requests) streams e.0, e.2, (e.1.0, e.1.1, refused.0, e.1.2, answer))
    stops_so faults.TooLong r stood = (wrote output output' journal' (journal_text r.requests) streams r.ending.0, r.ending.1, r.ending.2, r.ending.3)
    stops_so faults.NoMemory r stood = let e = r.ending in (e.0, e.1, e.2, wrote output output' journal' (journal_text e.0) streams e.3)

    -- the old journal wasn't read to its end
    pub breaks_off : (fault : RestartFault) → Restarted (Err fault) → FailsToReadJournal s.root fault (record { input = input; output = output }) (record { input = input'; output = output' })
    breaks_off fault r =
        let records = records_read (Err fault) r in
        record {
          journal = old_journal (Err fault) r records.0.state;
          records = records.1;
          stops = stops_so fault r records.0;
          just_written = streams.just_written;
        }

-- ---- what was served

-- the bytes after the whole records
behind_by : (P : Type 0) (rest : List ℕ) (is_torn : Bool) → MatchBool is_torn P (rest ≡ []) → (rest ≡ []) ⊎ P
behind_by P rest true b = inr b
behind_by P rest false b = inl b

nothing_behind : (P : Type 0) (rest : List ℕ) (len held faults : ℕ) (is_torn : Bool) → faults ≡ 0 → MatchBool is_torn ((len ≤ held) × (0 < faults)) (held ≡ len) → MatchBool is_torn P (rest ≡ []) → rest ≡ []
nothing_behind P rest len held faults true none fits b = absurd (omega (arith, none, fits.1))
nothing_behind P rest len held faults false none fits b = b

no_failures : (failures faults : ℕ) → faults ≡ 0 → CountRisesBy failures 0 faults → failures ≡ 0
no_failures failures faults none few = omega (arith, none, few)

not_failed : (faults : ℕ) → nat_lt 0 faults ≡ false → faults ≡ 0
not_failed faults h = grind (arith, nat_tests)

has_failed : (faults : ℕ) → nat_lt 0 faults ≡ true → 0 < faults
has_failed faults h = grind (arith, nat_tests)

module _ {W : Type 0} (Keeps : List Edit → W → W → Type 0) (address : List ℕ) (count : ℕ) (served : ServeSummary) (read : OldJournal) (s s' : ServerState) (log log' : LogState) (journal journal' : JournalState) (old new : ServiceState W) (listening : StreamState)
    (none : journal.faults ≡ 0) (fits : LogFitsJournal log' journal') (redone : AcceptsRequests s.root (first_state 1) read.requests read.state) (listens : listening ≡ with_listening_address old.port address)
    (v : ServesPortLogged Keeps (record { most = count; served = served }) (record { machine = read.state; requests = read.requests; failures = 0 }) (record { machine = record { machine = s; log = log; journal = journal }; stream = listening; watchers = old.watchers }) (record { machine = record { machine = s'; log = log'; journal = journal' }; stream = new.port; watchers = new.watchers })) where
  abbrev arguments : ServiceArguments
  arguments = record { address = address; root = s.root; count = count }

  abbrev IsWritten : List ℕ → Type 0
  IsWritten bytes = journal'.held ≡ bytes

  abbrev HasFailed : Type 0
  HasFailed = 0 < journal'.faults

  abbrev booked : State → List Request → ℕ → LoggedMachineState State
  booked machine requests failures = record { machine = machine; requests = requests; failures = failures }

  -- the records of all requests that were accepted were written, and a rest
  served_kept : (rest : List ℕ) (failures : ℕ) → v.serves.failures ≡ failures → v.serves.holds.rest ≡ rest → ServesLoggedConnections Keeps IsWritten HasFailed arguments (record { served = served; rest = rest; failures = failures }) read old new
  served_kept rest failures so behind = record {
    accepted = v.serves.accepted;
    next = v.next;
    valid = v.kept;
    serves =
        subst (λ (l : StreamState). ServesPort (StepsInBytes (LoggedStep (ValidStep s.root))) Keeps (record { most = count; served = served }) (record { machine = booked read.state read.requests 0; stream = l; watchers = old.watchers }) (record { machine = booked v.next v.serves.accepted failures; stream = new.port; watchers = new.watchers })) listens
        (subst (λ (n : ℕ). ServesPort (StepsInBytes (LoggedStep (ValidStep s.root))) Keeps (record { most = count; served = served }) (record { machine = booked read.state read.requests 0; stream = listening; watchers = old.watchers }) (record { machine = booked v.next v.serves.accepted n; stream = new.port; watchers = new.watchers })) so v.serves.serves);
    redone = v.redone (first_state 1) redone;
    recorded = v.serves.holds.recorded;
    written = v.serves.holds.split ∙ ap (λ (l : List ℕ). journal_text v.serves.accepted ++ l) behind;
    behind =
        subst (λ (l : List ℕ). (l ≡ []) ⊎ ((request : Request) × IsRecordable request × AcceptsRequest (ValidStep s.root) v.next request × IsPrefixOf l (record_of request))) behind
        (behind_by ((request : Request) × IsRecordable request × AcceptsRequest (ValidStep s.root) v.next request × IsPrefixOf v.serves.holds.rest (record_of request)) v.serves.holds.rest log'.is_torn v.serves.holds.behind);
  }

  -- writing failed
  pub kept_failed : nat_lt 0 journal'.faults ≡ true → EndsKeep Keeps IsWritten HasFailed arguments OutputFailed read old new
  kept_failed failed =
      (record { served = served; rest = v.serves.holds.rest; failures = v.serves.failures }, served_kept v.serves.holds.rest v.serves.failures refl refl, has_failed journal'.faults failed)

  -- writing didn't fail
  kept_whole : nat_lt 0 journal'.faults ≡ false → ServesLoggedConnections Keeps IsWritten HasFailed arguments (summary_without_failures served) read old new
  kept_whole well =
      let now : journal'.faults ≡ 0 = not_failed journal'.faults well in
      served_kept [] 0 (no_failures v.serves.failures journal'.faults now (subst (λ (n : ℕ). CountRisesBy v.serves.failures n journal'.faults) none v.serves.bound))
      (nothing_behind ((request : Request) × IsRecordable request × AcceptsRequest (ValidStep s.root) v.next request × IsPrefixOf v.serves.holds.rest (record_of request)) v.serves.holds.rest log'.len (length journal'.held) journal'.faults log'.is_torn now fits v.serves.holds.behind)

  pub kept_done : nat_lt 0 journal'.faults ≡ false → IsCompleteStop served.stop → EndsKeep Keeps IsWritten HasFailed arguments Done read old new
  kept_done well complete = (served, kept_whole well, complete)

  pub kept_port_failed : nat_lt 0 journal'.faults ≡ false → served.stop ≡ PortFailed → EndsKeep Keeps IsWritten HasFailed arguments NetworkFailed read old new
  kept_port_failed well stopped = inr (served, kept_whole well, stopped)

-- ---- old journal and service

module _ {W : Type 0} (Keeps : List Edit → W → W → Type 0) (P Q : List ℕ → Type 0) (F G : Type 0) (so : (bytes : List ℕ) → P bytes → Q bytes) (cause : F → G)
    (arguments : ServiceArguments) (journal : OldJournal) (old new : ServiceState W) where
  kept_so : (kept : KeepSummary) → ServesLoggedConnections Keeps P F arguments kept journal old new → ServesLoggedConnections Keeps Q G arguments kept journal old new
  kept_so kept k = record {
    accepted = k.accepted;
    next = k.next;
    valid = k.valid;
    serves = k.serves;
    redone = k.redone;
    recorded = k.recorded;
    written = so (journal_text k.accepted ++ kept.rest) k.written;
    behind = k.behind;
  }

  -- what was written to the journal went to the output
  pub keeps_so : (exit : Exit) → EndsKeep Keeps P F arguments exit journal old new → EndsKeep Keeps Q G arguments exit journal old new
  keeps_so Done k = (k.0, kept_so (summary_without_failures k.0) k.1, k.2)
  keeps_so Usage k = k
  keeps_so InputFailed k = k
  keeps_so OutputFailed k = (k.0, kept_so k.0 k.1, cause k.2)
  keeps_so NetworkFailed (inl d) = inl (d.0, so (journal_text journal.requests) d.1, d.2)
  keeps_so NetworkFailed (inr k) = inr (k.0, kept_so (summary_without_failures k.0) k.1, k.2)
  keeps_so (Refused refusal) k = k
  keeps_so (Client fault) k = k
  keeps_so (BadJournal refusal) k = k
  keeps_so (BadHostWords fault) k = k
  keeps_so OutOfMemory k = k

-- ---- a log without a torn record

pub fits_whole : (log : LogState) (journal : JournalState) → log.is_torn ≡ false → length journal.held ≡ log.len → LogFitsJournal log journal
fits_whole log journal whole len = subst (λ (b : Bool). MatchBool b ((log.len ≤ length journal.held) × (0 < journal.faults)) (length journal.held ≡ log.len)) (sym whole) len

pub holds_whole : (Accepted : Request → Type 0) (log : LogState) (requests : List Request) (bytes : List ℕ) → log.is_torn ≡ false → length bytes ≡ log.len → All IsRecordedRequest requests → bytes ≡ journal_text requests → HoldsLog Accepted log requests bytes
holds_whole Accepted log requests bytes whole len recorded held = record {
  rest = [];
  recorded = recorded;
  split = held ∙ sym (append-nil (journal_text requests));
  len = sym (ap length held) ∙ len;
  behind = subst (λ (b : Bool). MatchBool b ((request : Request) × IsRecordable request × Accepted request × IsPrefixOf [] (record_of request)) (◌≡◌ {A = List ℕ} [] [])) (sym whole) refl;
}

-- the records at the front of the accepted bytes are no longer than these
pub short_text : (bytes rest all : List ℕ) → take MAX_JOURNAL_BYTES bytes ≡ all ++ rest → length all ≤ MAX_JOURNAL_BYTES
short_text bytes rest all split = omega (arith, ap length split, length-take MAX_JOURNAL_BYTES bytes, length-append all rest)
