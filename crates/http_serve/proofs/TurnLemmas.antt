-- Turns of a connection, one after the other.
use Rattle.std.proofs.Common.{◌≡◌, ℕ, ◌+◌, ◌<◌, ◌==◌, false, List, [], ◌∷◌, ◌++◌, length, Option, None, Some, refl, sym, ap, subst, ◌∙◌, arith}
use Rattle.std.proofs.lemmas.Bool.Decides.{nat_tests}
use Rattle.std.proofs.lemmas.List.{length_push}
use Rattle.std.specs.Prelude.{option_to_list as told}
use Rattle.xcap_io.specs.StreamStates.{StreamState}
use Rattle.xcap_io.specs.StreamTraffic.{GivesBytes, TakesBytes}
use Rattle.xcap_io.proofs.TrafficSums.{gave_none, gave_on, took_none, took_on}
use Rattle.http_wire.specs.declared.request.Request.{Request}
use Rattle.http_wire.specs.NextRequests.{RequestReaderState, fresh_request_reader}
use Rattle.http_wire.specs.ConnectionItems.{AsksFor, in_chunks, with_length}
use Rattle.http_wire.specs.ServedConnections.{PendingInput, ItemAnswer, EndsConnection, KeepsConnectionOpen, AnswersRequests, RequestsAnswer}
use Rattle.http_wire.proofs.Connections.{run_none, run_more, run-append}
use Rattle.http_wire.specs.declared.close_reason.CloseReason.{CloseReason}
use Rattle.http_serve.specs.FaultCounts.{OnlyExchangesBytes, CountsFaultOfReason}
use Rattle.http_serve.specs.inner.OpenFaultCounts.{CountsFaultOfEnding}
use Rattle.http_serve.specs.FixedReplies.{fixed_reply}
use Rattle.http_serve.proofs.Faults.{faults_on}
use Rattle.http_serve.specs.inner.ConnectionTurns.{KeepsOpen, ConnectionTurn}
use Rattle.http_serve.specs.ServedStreams.{ServesStream}

-- a request that keeps the connection open isn't the 1,000th
open_below : (before : ℕ) (bytes : List ℕ) (request : Request) (rest : List ℕ) → AsksFor before bytes request rest → request.closes ≡ false → (before == 999) ≡ false
open_below before bytes request rest (with_length head body opens is) stays = let e = ap (λ (r : Request). r.closes) is in grind (arith, nat_tests)
open_below before bytes request rest (in_chunks head behind body opens reads short is) stays = let e = ap (λ (r : Request). r.closes) is in grind (arith, nat_tests)

pub few_requests : {M E : Type 0} (Step : M → Request → List ℕ → M → Option E → Type 0) (input : PendingInput) (machine : M) (answer : ItemAnswer M E) (rest : List ℕ)
    → input.before < 1000 → KeepsConnectionOpen Step fixed_reply input machine answer rest → input.before + 1 < 1000
few_requests Step input machine answer rest below g = let e = open_below input.before input.given g.request rest g.asked g.stays in grind (arith, nat_tests)

-- exchanges, one after the other
pub exchanges_none : (line : StreamState) → OnlyExchangesBytes line line
exchanges_none line = record { same_holds = refl; same_aside = refl; same_port = refl; same_peer = refl }

pub exchanges_on : (old mid new : StreamState) → OnlyExchangesBytes old mid → OnlyExchangesBytes mid new → OnlyExchangesBytes old new
exchanges_on old mid new a b = record { same_holds = b.same_holds ∙ a.same_holds; same_aside = b.same_aside ∙ a.same_aside; same_port = b.same_port ∙ a.same_port; same_peer = b.same_peer ∙ a.same_peer }

module _ {M W E : Type 0} (Step : M → Request → List ℕ → M → Option E → Type 0) (Keeps : List E → W → W → Type 0) where
  -- A connection so far: requests were answered, after each of which it went on.
  pub record SoFar (machine now : M) (request_reader : RequestReaderState) (old mid : StreamState) (watchers watchers' : W) : Type 0 where
    pub requests : List Request
    pub given : List ℕ
    pub written : List ℕ
    pub edits : List E
    pub gave : GivesBytes old.inward mid.inward given
    pub took : TakesBytes old.taken mid.taken written
    pub run : AnswersRequests Step fixed_reply 0 machine given requests (record { written = written; edits = edits; next = now; rest = request_reader.held })
    pub count : length requests ≡ request_reader.requests
    pub kept : Keeps edits watchers watchers'
    pub same_reads : mid.read_faults ≡ old.read_faults
    pub same_writes : mid.write_faults ≡ old.write_faults
    pub exchanges : OnlyExchangesBytes old mid

  -- it begins
  pub at_first : (machine : M) (request_reader : RequestReaderState) (line : StreamState) (watchers : W) → request_reader ≡ fresh_request_reader → Keeps [] watchers watchers → SoFar machine machine request_reader line line watchers watchers
  at_first machine request_reader line watchers fresh none =
      let held : request_reader.held ≡ [] = ap (λ (w : RequestReaderState). w.held) fresh in
      let requests : request_reader.requests ≡ 0 = ap (λ (w : RequestReaderState). w.requests) fresh in
      record {
        requests = [];
        given = [];
        written = [];
        edits = [];
        gave = gave_none line.inward;
        took = took_none line.taken;
        run = subst (λ (l : List ℕ). AnswersRequests Step fixed_reply 0 machine [] [] (record { written = []; edits = []; next = machine; rest = l })) (sym held) (run_none Step fixed_reply 0 machine []);
        count = sym requests;
        kept = none;
        same_reads = refl;
        same_writes = refl;
        exchanges = exchanges_none line;
      }

  module _ (more : (xs ys : List E) (a b c : W) → Keeps xs a b → Keeps ys b c → Keeps (xs ++ ys) a c)
      (machine now next : M) (request_reader request_reader' : RequestReaderState) (old mid new : StreamState) (a b c : W) (so_far : SoFar machine now request_reader old mid a b) where
    -- what was done on the requests so far, where these bytes follow them
    abbrev answer_so_far : List ℕ → RequestsAnswer M E
    answer_so_far rest = record { written = so_far.written; edits = so_far.edits; next = now; rest = rest }

    -- what there is to answer after more bytes
    abbrev input : List ℕ → PendingInput
    input bytes = record { before = request_reader.requests; given = request_reader.held ++ bytes; ended = new.inward.ended }

    -- the requests so far, in more bytes
    run_on : (bytes : List ℕ) → AnswersRequests Step fixed_reply 0 machine (so_far.given ++ bytes) so_far.requests (answer_so_far (request_reader.held ++ bytes))
    run_on bytes = run-append Step fixed_reply 0 machine so_far.given bytes so_far.requests (answer_so_far request_reader.held) so_far.run

    -- one more turn
    pub one_more : ConnectionTurn Step Keeps None (record { request_reader = request_reader; machine = now; stream = mid; watchers = b }) (record { request_reader = request_reader'; machine = next; stream = new; watchers = c }) → request_reader'.requests ≡ request_reader.requests + 1 → (new.read_faults ≡ mid.read_faults) × (new.write_faults ≡ mid.write_faults) → OnlyExchangesBytes mid new → SoFar machine next request_reader' old new a c
    one_more t counted faults exchanges =
        let did : KeepsConnectionOpen Step fixed_reply (input t.read) now (record { written = t.written; next = next; edit = t.edit }) request_reader'.held = t.did in
        let before : request_reader.requests ≡ 0 + length so_far.requests = omega (arith, so_far.count) in
        record {
          requests = so_far.requests ++ did.request ∷ [];
          given = so_far.given ++ t.read;
          written = so_far.written ++ t.written;
          edits = so_far.edits ++ told t.edit;
          gave = gave_on old.inward mid.inward new.inward so_far.given t.read so_far.gave t.gave;
          took = took_on old.taken mid.taken new.taken so_far.written t.written so_far.took t.took;
          run = run_more Step fixed_reply 0 machine next (so_far.given ++ t.read) request_reader'.held t.written so_far.requests (answer_so_far (request_reader.held ++ t.read)) did.request t.edit (run_on t.read)
              (subst (λ (n : ℕ). AsksFor n (request_reader.held ++ t.read) did.request request_reader'.held) before did.asked) did.stays did.step;
          count = omega (arith, so_far.count, counted, length_push so_far.requests did.request);
          kept = more so_far.edits (told t.edit) a b c so_far.kept t.kept;
          same_reads = faults.0 ∙ so_far.same_reads;
          same_writes = faults.1 ∙ so_far.same_writes;
          exchanges = exchanges_on old mid new so_far.exchanges exchanges;
        }

    -- one more turn, by its own result that the connection goes on
    pub another : (result : Option CloseReason) → result ≡ None → ConnectionTurn Step Keeps result (record { request_reader = request_reader; machine = now; stream = mid; watchers = b }) (record { request_reader = request_reader'; machine = next; stream = new; watchers = c }) → (result ≡ None → KeepsOpen request_reader request_reader') → CountsFaultOfEnding result mid new → OnlyExchangesBytes mid new → request_reader.requests < 1000
        → SoFar machine next request_reader' old new a c × ((request_reader'.spent ≡ false) × (request_reader'.requests < 1000))
    another result is t gives faults exchanges below =
        let goes = gives is in
        let one : ConnectionTurn Step Keeps None (record { request_reader = request_reader; machine = now; stream = mid; watchers = b }) (record { request_reader = request_reader'; machine = next; stream = new; watchers = c }) = subst (λ (r : Option CloseReason). ConnectionTurn Step Keeps r (record { request_reader = request_reader; machine = now; stream = mid; watchers = b }) (record { request_reader = request_reader'; machine = next; stream = new; watchers = c })) is t in
        let did : KeepsConnectionOpen Step fixed_reply (input one.read) now (record { written = one.written; next = next; edit = one.edit }) request_reader'.held = one.did in
        let few = few_requests Step (input one.read) now (record { written = one.written; next = next; edit = one.edit }) request_reader'.held below did in
        (one_more one goes.requests (subst (λ (r : Option CloseReason). CountsFaultOfEnding r mid new) is faults) exchanges, (goes.open_still, omega (arith, goes.requests, few)))

    -- the last turn
    pub at_end : (ended : CloseReason) → ConnectionTurn Step Keeps (Some ended) (record { request_reader = request_reader; machine = now; stream = mid; watchers = b }) (record { request_reader = request_reader'; machine = next; stream = new; watchers = c }) → CountsFaultOfReason ended mid.read_faults new.read_faults mid.write_faults new.write_faults → OnlyExchangesBytes mid new → ServesStream Step Keeps ended (record { machine = machine; stream = old; watchers = a }) (record { machine = next; stream = new; watchers = c })
    at_end ended t faults exchanges =
        let bytes = request_reader.held ++ t.read in
        record {
          passed = record { given = so_far.given ++ t.read; ended = new.inward.ended; taken = so_far.written ++ t.written };
          edits = so_far.edits ++ told t.edit;
          gave = gave_on old.inward mid.inward new.inward so_far.given t.read so_far.gave t.gave;
          found_end = refl;
          took = took_on old.taken mid.taken new.taken so_far.written t.written so_far.took t.took;
          serves = record {
            requests = so_far.requests;
            replies = so_far.written;
            early = so_far.edits;
            mid = now;
            behind = bytes;
            last = t.written;
            edit = t.edit;
            run = run_on t.read;
            ends = subst (λ (n : ℕ). EndsConnection Step fixed_reply ended (record { before = n; given = bytes; ended = new.inward.ended }) now (record { written = t.written; next = next; edit = t.edit })) (sym so_far.count) t.did;
            wrote = refl;
            all_told = refl;
          };
          kept = more so_far.edits (told t.edit) a b c so_far.kept t.kept;
          faults = faults_on ended old mid new so_far.same_reads so_far.same_writes faults;
          exchanges = exchanges_on old mid new so_far.exchanges exchanges;
        }
