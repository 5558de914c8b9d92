-- What a restart knows after each read, and what follows where it ends.
use Rattle.std.proofs.Common.{◌≡◌, ℕ, ◌+◌, ◌<◌, ◌≤◌, false, List, [], ◌∷◌, ◌++◌, length, take, Ok, Err, refl, sym, ap, ◌∙◌, subst, arith, append-nil, append_assoc, length-append}
use Rattle.std.proofs.Math.Seq.{take-append_seam}
use Rattle.std.proofs.lemmas.List.{take_all}
use Rattle.std.proofs.lemmas.List.Elements.{All-nil}
use Rattle.http_wire.specs.declared.request.Request.{Request}
use Rattle.xcap_io.specs.StreamStates.{StreamState, CountRises, DiffersByReads}
use Rattle.xcap_io.specs.StreamTraffic.{GivesBytes, IsEnded}
use Rattle.xcap_io.proofs.Lines.{reads_none, reads_on}
use Rattle.xcap_io.proofs.TrafficSums.{gave_none, gave_on}
use Rattle.edit_journal.specs.declared.journal_restart.RestartFault.{RestartFault}
use Rattle.edit_journal.specs.declared.journal_restart.RestartFault.TheVariants.{ReadFailed, AppendFailed, Damaged, Refused, TooLong, NoMemory}
use Rattle.edit_journal.specs.JournalLogs.{LogState, log_with_record}
use Rattle.edit_journal.specs.declared.limits.TheConstants.{MAX_JOURNAL_BYTES}
use Rattle.edit_journal.specs.Restarts.{RestartState, RestartEndsAs, CountsFaults, RestartsReplayer}
use Rattle.edit_journal.specs.JournalTexts.{journal_text, HasNoRecord, IsTorn, IsRecordedRequest}
use Rattle.edit_journal.specs.inner.ReadBuffer.{ReadBufferState, with_bytes}
use Rattle.edit_journal.specs.inner.ReplaySteps.{ReplayProgress, AdvancesReplay, ReplayStopsAs, StopsReplay, ReplaysBufferedRecords}
use Rattle.edit_journal.proofs.JournalCalls.{goes_none}
use Rattle.edit_journal.proofs.WholeRecords.{journal_text-append}
use Rattle.edit_journal.proofs.Lengths.{record_length}
use Rattle.edit_journal.proofs.ReplayedRequests.{means_refl, redone_none, redone_on, stops_on, stood, records_longer}
use Rattle.edit_journal.proofs.CompleteRequests.{nothing_in, nothing_torn}

-- a torn record is shorter than the longest one
pub torn_short : (bytes : List ℕ) → IsTorn bytes → length bytes < 300_004
torn_short bytes (request, recorded, short, front) = omega (arith, record_length request, recorded.0.short)

-- the log of an empty journal
abbrev pub no_log : LogState
no_log = record { len = 0; is_torn = false }

-- a restart, before a record was replayed
abbrev pub start_of : {S : Type 0} → RestartState S → ReplayProgress S
start_of old = record { replayer = old.replayer; journal = old.journal; log = no_log; count = 0 }

-- a restart with its source at this moment
abbrev pub restart_state : {S : Type 0} → StreamState → ReplayProgress S → RestartState S
restart_state source now = record { source = source; journal = now.journal; replayer = now.replayer }

from_zero : (n : ℕ) → 0 + n ≡ n
from_zero n = omega arith

-- a log that was empty has the length of the records
first_log : (log : LogState) (bytes : List ℕ) → log ≡ log_with_record no_log bytes → log ≡ record { len = length bytes; is_torn = false }
first_log log bytes is = is ∙ ap (λ (n : ℕ). record { len = n; is_torn = false }) (from_zero (length bytes))

module _ {S : Type 0} (stands : S → List Request → Type 0) (refuses : S → Request → Type 0) where
  -- After each read the complete records have been replayed, and what is buffered is torn.
  pub record IsRestarting (old : RestartState S) (source : StreamState) (now : ReplayProgress S) (read_buffer : ReadBufferState) : Type 0 where
    pub bytes : List ℕ
    pub requests : List Request
    pub given : GivesBytes old.source.inward source.inward bytes
    pub taken : read_buffer.taken ≡ length bytes
    pub few : read_buffer.taken ≤ MAX_JOURNAL_BYTES
    pub split : bytes ≡ journal_text requests ++ read_buffer.held
    pub none : HasNoRecord read_buffer.held
    pub torn : IsTorn read_buffer.held
    pub redone : AdvancesReplay stands refuses (start_of old) now requests
    pub reads : DiffersByReads old.source source
    pub no_fault : source.read_faults ≡ old.source.read_faults

  pub restarting_first : (old : RestartState S) (log : LogState) (read_buffer : ReadBufferState) → read_buffer ≡ record { held = []; taken = 0 } → log ≡ no_log
      → IsRestarting old old.source (record (start_of old) { log = log }) read_buffer
  restarting_first old log read_buffer fresh new =
      let held : read_buffer.held ≡ [] = ap (λ (i : ReadBufferState). i.held) fresh in
      let taken : read_buffer.taken ≡ 0 = ap (λ (i : ReadBufferState). i.taken) fresh in
      record {
        bytes = [];
        requests = [];
        given = gave_none old.source.inward;
        taken = taken;
        few = omega (arith, taken);
        split = sym held;
        none = subst HasNoRecord (sym held) nothing_in;
        torn = subst IsTorn (sym held) nothing_torn;
        redone = subst (λ (l : LogState). AdvancesReplay stands refuses (start_of old) (record (start_of old) { log = l }) []) (sym new) (redone_none stands refuses (start_of old) refl);
        reads = reads_none old.source;
        no_fault = refl;
      }

  -- the bytes given so far, and more that were read
  more_split : (bytes more held held' : List ℕ) (requests : List Request) → bytes ≡ journal_text requests ++ held → held' ≡ held ++ more → bytes ++ more ≡ journal_text requests ++ held'
  more_split bytes more held held' requests p q = ap (λ l. l ++ more) p ∙ append_assoc (journal_text requests) held more ∙ ap (λ l. journal_text requests ++ l) (sym q)

  pub restarting_on : (old : RestartState S) (s1 s2 : StreamState) (r1 r2 : ReplayProgress S) (i1 i2 i3 : ReadBufferState) (more : List ℕ)
      → IsRestarting old s1 r1 i1 → GivesBytes s1.inward s2.inward more → DiffersByReads s1 s2 → s2.read_faults ≡ s1.read_faults → i2 ≡ with_bytes i1 more → i2.taken ≤ MAX_JOURNAL_BYTES
      → ReplaysBufferedRecords stands refuses r1 r2 i2.held i3.held (Ok tt) → HasNoRecord i3.held × IsTorn i3.held → i3.taken ≡ i2.taken
      → IsRestarting old s2 r2 i3
  restarting_on old s1 s2 r1 r2 i1 i2 i3 more p gave reads stayed filled few (next, split, redone) ends same =
      let taken : i2.taken ≡ i1.taken + length more = ap (λ (i : ReadBufferState). i.taken) filled in
      let held : i2.held ≡ i1.held ++ more = ap (λ (i : ReadBufferState). i.held) filled in
      let on = redone_on stands refuses (start_of old) r1 r2 p.requests next p.redone redone in
      record {
        bytes = p.bytes ++ more;
        requests = p.requests ++ next;
        given = gave_on old.source.inward s1.inward s2.inward p.bytes more p.given gave;
        taken = omega (arith, same, taken, p.taken, length-append p.bytes more);
        few = omega (arith, same, few);
        split =
            more_split p.bytes more i1.held i2.held p.requests p.split held ∙ ap (λ l. journal_text p.requests ++ l) split
            ∙ sym (append_assoc (journal_text p.requests) (journal_text next) i3.held) ∙ ap (λ l. l ++ i3.held) (sym (journal_text-append p.requests next));
        none = ends.0;
        torn = ends.1;
        redone = on;
        reads = reads_on old.source s1 s2 p.reads reads;
        no_fault = stayed ∙ p.no_fault;
      }

  -- what a journal that was empty has
  from_nothing : (held held' bytes : List ℕ) → held ≡ [] → held' ≡ held ++ bytes → held' ≡ bytes
  from_nothing held held' bytes empty is = is ∙ ap (λ l. l ++ bytes) empty

  pub restarts_whole : (old : RestartState S) (s1 s2 : StreamState) (r1 : ReplayProgress S) (i1 : ReadBufferState)
      → old.journal.held ≡ [] → IsRestarting old s1 r1 i1 → GivesBytes s1.inward s2.inward [] → IsEnded s2.inward → DiffersByReads s1 s2 → s2.read_faults ≡ s1.read_faults
      → RestartsReplayer stands refuses old (restart_state s2 r1) (Ok r1.log)
  restarts_whole old s1 s2 r1 i1 empty p gave ended reads stayed = record {
    bytes = p.bytes;
    requests = p.requests;
    rest = i1.held;
    given = subst (λ (l : List ℕ). GivesBytes old.source.inward s2.inward l) (append-nil p.bytes) (gave_on old.source.inward s1.inward s2.inward p.bytes [] p.given gave);
    recorded = p.redone.recorded;
    split = take_all MAX_JOURNAL_BYTES p.bytes (omega (arith, p.taken, p.few)) ∙ p.split;
    redone = p.redone.redone;
    stood = stood stands refuses old.replayer r1.replayer p.requests p.redone.redone;
    ending = (ended, omega (arith, p.taken, p.few), p.none, p.torn, from_nothing old.journal.held r1.journal.held (journal_text p.requests) empty p.redone.held, first_log r1.log (journal_text p.requests) p.redone.added);
    reads = reads_on old.source s1 s2 p.reads reads;
    goes = p.redone.goes;
    faults = (stayed ∙ p.no_fault, p.redone.no_fault);
  }

  pub restarts_beyond : (old : RestartState S) (s1 s2 : StreamState) (r1 : ReplayProgress S) (i1 : ReadBufferState) (byte : ℕ)
      → old.journal.held ≡ [] → IsRestarting old s1 r1 i1 → i1.taken ≡ MAX_JOURNAL_BYTES → GivesBytes s1.inward s2.inward (byte ∷ []) → DiffersByReads s1 s2 → s2.read_faults ≡ s1.read_faults
      → RestartsReplayer stands refuses old (restart_state s2 r1) (Err TooLong)
  restarts_beyond old s1 s2 r1 i1 byte empty p full gave reads stayed =
      let size : length p.bytes ≡ MAX_JOURNAL_BYTES = sym p.taken ∙ full in
      record {
        bytes = p.bytes ++ byte ∷ [];
        requests = p.requests;
        rest = i1.held;
        given = gave_on old.source.inward s1.inward s2.inward p.bytes (byte ∷ []) p.given gave;
        recorded = p.redone.recorded;
        split = ap (λ n. take n (p.bytes ++ byte ∷ [])) (sym size) ∙ take-append_seam p.bytes (byte ∷ []) ∙ p.split;
        redone = p.redone.redone;
        stood = stood stands refuses old.replayer r1.replayer p.requests p.redone.redone;
        ending = (from_nothing old.journal.held r1.journal.held (journal_text p.requests) empty p.redone.held, omega (arith, size, length-append p.bytes (byte ∷ [])), p.none, p.torn);
        reads = reads_on old.source s1 s2 p.reads reads;
        goes = p.redone.goes;
        faults = (stayed ∙ p.no_fault, p.redone.no_fault);
      }

  pub restarts_unread : (old : RestartState S) (s1 s2 : StreamState) (r1 : ReplayProgress S) (i1 : ReadBufferState)
      → old.journal.held ≡ [] → IsRestarting old s1 r1 i1 → s2.inward ≡ s1.inward → DiffersByReads s1 s2 → CountRises s1.read_faults s2.read_faults
      → RestartsReplayer stands refuses old (restart_state s2 r1) (Err ReadFailed)
  restarts_unread old s1 s2 r1 i1 empty p same reads rose = record {
    bytes = p.bytes;
    requests = p.requests;
    rest = i1.held;
    given = subst (λ now. GivesBytes old.source.inward now p.bytes) (sym same) p.given;
    recorded = p.redone.recorded;
    split = take_all MAX_JOURNAL_BYTES p.bytes (omega (arith, p.taken, p.few)) ∙ p.split;
    redone = p.redone.redone;
    stood = stood stands refuses old.replayer r1.replayer p.requests p.redone.redone;
    ending = (from_nothing old.journal.held r1.journal.held (journal_text p.requests) empty p.redone.held, p.none, p.torn);
    reads = reads_on old.source s1 s2 p.reads reads;
    goes = p.redone.goes;
    faults = (omega (arith, rose, p.no_fault), p.redone.no_fault);
  }

  ends_of : (old : RestartState S) (source : StreamState) (now : ReplayProgress S) (bytes : List ℕ) (requests : List Request) (rest : List ℕ) (fault : RestartFault)
      → old.journal.held ≡ [] → ReplayStopsAs stands refuses (start_of old) now requests rest fault → RestartEndsAs stands refuses (restart_state source now) (record { bytes = bytes; requests = requests; rest = rest }) (Err fault)
  ends_of old source now bytes requests rest ReadFailed empty p = absurd p
  ends_of old source now bytes requests rest AppendFailed empty ((before, last, is, (some, front, held)), rose) =
      (before, last, is, (some, front, held ∙ ap (λ l. (l ++ journal_text before) ++ some) empty))
  ends_of old source now bytes requests rest (Damaged place) empty (held, damaged, is, none) =
      (from_nothing old.journal.held now.journal.held (journal_text requests) empty held, damaged, is ∙ from_zero (length (journal_text requests)))
  ends_of old source now bytes requests rest (Refused number) empty (held, refused, is, none) =
      (from_nothing old.journal.held now.journal.held (journal_text requests) empty held, refused, omega (arith, is))
  ends_of old source now bytes requests rest TooLong empty p = absurd p
  ends_of old source now bytes requests rest NoMemory empty ((before, more, is, held), none) =
      (before, more, is, from_nothing old.journal.held now.journal.held (journal_text before) empty held)

  counts_of : (reads reads' : ℕ) (old : RestartState S) (now : ReplayProgress S) (requests : List Request) (rest : List ℕ) (fault : RestartFault)
      → reads' ≡ reads → ReplayStopsAs stands refuses (start_of old) now requests rest fault → CountsFaults reads reads' old.journal.faults now.journal.faults (Err fault)
  counts_of reads reads' old now requests rest ReadFailed same p = absurd p
  counts_of reads reads' old now requests rest AppendFailed same p = (same, p.1)
  counts_of reads reads' old now requests rest (Damaged place) same p = (same, p.3)
  counts_of reads reads' old now requests rest (Refused number) same p = (same, p.3)
  counts_of reads reads' old now requests rest TooLong same p = absurd p
  counts_of reads reads' old now requests rest NoMemory same p = (same, p.1)

  pub restarts_stopped : (old : RestartState S) (s1 s2 : StreamState) (r1 r2 : ReplayProgress S) (i1 i2 : ReadBufferState) (more : List ℕ) (fault : RestartFault)
      → old.journal.held ≡ [] → IsRestarting old s1 r1 i1 → GivesBytes s1.inward s2.inward more → DiffersByReads s1 s2 → s2.read_faults ≡ s1.read_faults → i2 ≡ with_bytes i1 more → i2.taken ≤ MAX_JOURNAL_BYTES
      → StopsReplay stands refuses r1 r2 i2.held fault → RestartsReplayer stands refuses old (restart_state s2 r2) (Err fault)
  restarts_stopped old s1 s2 r1 r2 i1 i2 more fault empty p gave reads stayed filled few stops =
      let taken : i2.taken ≡ i1.taken + length more = ap (λ (i : ReadBufferState). i.taken) filled in
      let held : i2.held ≡ i1.held ++ more = ap (λ (i : ReadBufferState). i.held) filled in
      let bytes : List ℕ = p.bytes ++ more in
      let on = stops_on stands refuses (start_of old) r1 r2 p.requests bytes i2.held fault p.redone (more_split p.bytes more i1.held i2.held p.requests p.split held) stops in
      record {
        bytes = bytes;
        requests = on.requests;
        rest = on.rest;
        given = gave_on old.source.inward s1.inward s2.inward p.bytes more p.given gave;
        recorded = on.recorded;
        split = take_all MAX_JOURNAL_BYTES bytes (omega (arith, few, taken, p.taken, length-append p.bytes more)) ∙ on.split;
        redone = on.redone;
        stood = stood stands refuses old.replayer r2.replayer on.requests on.redone;
        ending = ends_of old s2 r2 bytes on.requests on.rest fault empty on.ending;
        reads = reads_on old.source s1 s2 p.reads reads;
        goes = on.goes;
        faults = counts_of old.source.read_faults s2.read_faults old r2 on.requests on.rest fault (stayed ∙ p.no_fault) on.ending;
      }

  -- memory ran out before a byte was read
  pub restarts_without_memory : (old : RestartState S) → old.journal.held ≡ [] → RestartsReplayer stands refuses old old (Err NoMemory)
  restarts_without_memory old empty = record {
    bytes = [];
    requests = [];
    rest = [];
    given = gave_none old.source.inward;
    recorded = All-nil IsRecordedRequest;
    split = take_all MAX_JOURNAL_BYTES [] (omega arith);
    redone = means_refl stands refuses old.replayer;
    stood = stood stands refuses old.replayer old.replayer [] (means_refl stands refuses old.replayer);
    ending = ([], [], refl, empty);
    reads = reads_none old.source;
    goes = goes_none old.journal;
    faults = (refl, refl);
  }

  -- each record counted has at least one byte
  pub ready_few : (old : RestartState S) (s1 : StreamState) (r1 : ReplayProgress S) (i1 : ReadBufferState) → IsRestarting old s1 r1 i1 → r1.count ≤ r1.log.len
  ready_few old s1 r1 i1 p =
      let len : r1.log.len ≡ length (journal_text p.requests) = ap (λ (l : LogState). l.len) (first_log r1.log (journal_text p.requests) p.redone.added) in
      omega (arith, len, p.redone.counted, records_longer p.requests)
