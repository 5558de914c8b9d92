-- What the reader returned and how it was answered, as what a turn of the connection did.
use Rattle.std.proofs.Common.{◌≡◌, ℕ, ◌⊎◌, inl, inr, Bool, true, false, true≢false, List, [], ◌++◌, take, Option, None, Some, Ok, Err, refl, sym, ap, subst, ◌∙◌}
use Rattle.std.specs.Prelude.{option_to_list as told}
use Rattle.reply_text.specs.ReplyHeads.{SentReply, reply_bytes}
use Rattle.xcap_io.specs.StreamStates.{InputState, StreamState}
use Rattle.xcap_io.specs.StreamTraffic.{GivesBytes, TakesBytes}
use Rattle.xcap_io.proofs.TrafficSums.{took_none}
use Rattle.xcap_io.specs.StreamWrites.{TakesProperPrefix}
use Rattle.http_wire.specs.declared.request.Request.{Request}
use Rattle.http_wire.specs.declared.request.Asked.{Asked}
use Rattle.http_wire.specs.declared.request.Asked.TheVariants.{Request as Requested, Bad, TooLong, Coded, End, NoMemory}
use Rattle.http_wire.specs.NextRequests.{RequestReaderState, IsNextItem, IsNextRequestResult, ReadsNextRequest, IsReaderStateAfter}
use Rattle.http_wire.specs.ConnectionItems.{Item, asks, bad, too_long, coded, IsKnownFirstItem}
use Rattle.http_wire.specs.ServedConnections.{PendingInput, ItemAnswer, ClosesConnection, no_more, last_item, no_memory, KeepsConnectionOpen}
use Rattle.http_wire.proofs.Buffers.{buffered}
use Rattle.http_wire.proofs.WholeItems.{asks-append}
use Rattle.http_wire.specs.declared.close_reason.CloseReason.{CloseReason}
use Rattle.http_wire.specs.declared.close_reason.CloseReason.TheVariants.{Closed, ReadFailed, WriteFailed}
use Rattle.http_serve.specs.FixedReplies.{fixed_reply}
use Rattle.http_serve.specs.ItemAnswers.{AnswersNextRequest, IsNoneOrReadRequest, IsFixedReply}
use Rattle.http_serve.specs.inner.ConnectionTurns.{MakesTurn, KeepsOpen, ConnectionTurn}
use Rattle.http_serve.specs.inner.SentReplies.{SendsReply}

-- the next item is the first one
first_item : (before : ℕ) (given : List ℕ) (now : InputState) (item : Item) (held : List ℕ) → IsNextItem before given now item held → IsKnownFirstItem before given now.ended item
first_item before given now item held (inl each) = inl (λ more. (held ++ more, each more))
first_item before given now item held (inr (first, ended)) = inr (ended.0, (held, first))

-- a request that the reader returned was read
was_read : (before : ℕ) (given : List ℕ) (now : InputState) (asked : Asked) (held : List ℕ) → IsNextRequestResult before given now asked held → IsNoneOrReadRequest asked
was_read before given now (Requested request) held is = record { before = before; bytes = given; rest = held; asked = is }
was_read before given now Bad held is = tt
was_read before given now TooLong held is = tt
was_read before given now Coded held is = tt
was_read before given now End held is = tt
was_read before given now NoMemory held is = tt

pub asks_read : {F : Type 0} (before : ℕ) (held : List ℕ) (old now : InputState) (asked : Asked) (held' : List ℕ) → ReadsNextRequest {E = F} before (buffered held old) (Ok asked) (buffered held' now) → IsNoneOrReadRequest asked
asks_read before held old now asked held' a = was_read before (held ++ a.read) now asked held' a.answer

module _ {M E : Type 0} where
  -- a fixed reply closes
  fixed_closes : {A : Type 0} (status : ℕ) (machine next : M) (reply : SentReply) (edit : Option E) → IsFixedReply status machine reply edit next → reply.closes ≡ false → A
  fixed_closes status machine next reply edit is goes_on = absurd (true≢false (sym (ap (λ (r : SentReply). r.closes) is.0) ∙ goes_on))

  -- the reply to what is no request
  fixed_answer : (status : ℕ) (machine next : M) (reply : SentReply) (edit : Option E) → IsFixedReply status machine reply edit next → (reply_bytes reply ≡ fixed_reply status) × (next ≡ machine) × (edit ≡ None)
  fixed_answer status machine next reply edit is = (ap reply_bytes is.0, is.2, is.1)

module _ {M E : Type 0} (Step : M → Request → List ℕ → M → Option E → Type 0) where
  module _ (before : ℕ) (given : List ℕ) (now : InputState) (machine next : M) (reply : SentReply) (edit : Option E) (held : List ℕ) where
    abbrev input : PendingInput
    input = record { before = before; given = given; ended = now.ended }

    abbrev answer : ItemAnswer M E
    answer = record { written = reply_bytes reply; next = next; edit = edit }

    -- a reply that closes ends the connection
    ends_so : (asked : Asked) → IsNextRequestResult before given now asked held → AnswersNextRequest Step machine asked reply edit next → reply.closes ≡ true → ClosesConnection Step fixed_reply input machine answer
    ends_so (Requested request) is (inl (step, same)) closes = last_item (asks request) (inl (λ more. (held ++ more, asks-append before given more request held is))) (sym same ∙ closes) step
    ends_so (Requested request) is (inr fix) closes = no_memory request held is (ap reply_bytes fix.0) fix.2 fix.1
    ends_so Bad is fix closes = last_item bad (first_item before given now bad held is) refl (fixed_answer 400 machine next reply edit fix)
    ends_so TooLong is fix closes = last_item too_long (first_item before given now too_long held is) refl (fixed_answer 413 machine next reply edit fix)
    ends_so Coded is fix closes = last_item coded (first_item before given now coded held is) refl (fixed_answer 501 machine next reply edit fix)
    ends_so End is none closes = absurd none
    ends_so NoMemory (request, rest, is) fix closes = no_memory request rest is (ap reply_bytes fix.0) fix.2 fix.1

    -- after a reply that doesn't close it goes on
    goes_so : (asked : Asked) → IsNextRequestResult before given now asked held → AnswersNextRequest Step machine asked reply edit next → reply.closes ≡ false → KeepsConnectionOpen Step fixed_reply input machine answer held
    goes_so (Requested request) is (inl (step, same)) goes_on = record { request = request; asked = is; stays = sym same ∙ goes_on; step = step }
    goes_so (Requested request) is (inr fix) goes_on = fixed_closes 503 machine next reply edit fix goes_on
    goes_so Bad is fix goes_on = fixed_closes 400 machine next reply edit fix goes_on
    goes_so TooLong is fix goes_on = fixed_closes 413 machine next reply edit fix goes_on
    goes_so Coded is fix goes_on = fixed_closes 501 machine next reply edit fix goes_on
    goes_so End is none goes_on = absurd none
    goes_so NoMemory is fix goes_on = fixed_closes 503 machine next reply edit fix goes_on

    either_so : (asked : Asked) (closes : Bool) → reply.closes ≡ closes → IsNextRequestResult before given now asked held → AnswersNextRequest Step machine asked reply edit next
        → ClosesConnection Step fixed_reply input machine answer ⊎ ((rest : List ℕ) × KeepsConnectionOpen Step fixed_reply input machine answer rest)
    either_so asked true closes is did = inl (ends_so asked is did closes)
    either_so asked false closes is did = inr (held, goes_so asked is did closes)

module _ {M W E : Type 0} (Step : M → Request → List ℕ → M → Option E → Type 0) (Keeps : List E → W → W → Type 0) (request_reader request_reader' : RequestReaderState) (machine : M) (old new : StreamState) (watchers : W) where
  -- a read failed
  pub turn_of_fault : {F : Type 0} (e : F) → ReadsNextRequest request_reader.requests (buffered request_reader.held old.inward) (Err e) (buffered request_reader'.held new.inward) → new.taken ≡ old.taken → Keeps [] watchers watchers
      → ConnectionTurn Step Keeps (Some ReadFailed) (record { request_reader = request_reader; machine = machine; stream = old; watchers = watchers }) (record { request_reader = request_reader'; machine = machine; stream = new; watchers = watchers })
  turn_of_fault e a same none = record {
    read = a.read;
    written = [];
    edit = None;
    gave = a.given;
    took = subst (λ (t : List ℕ). TakesBytes old.taken t []) (sym same) (took_none old.taken);
    did = (a.answer, refl, refl, refl);
    kept = none;
  }

  -- nothing was left
  pub turn_of_end : {F : Type 0} (next : M) (asked : Asked) → ReadsNextRequest {E = F} request_reader.requests (buffered request_reader.held old.inward) (Ok asked) (buffered request_reader'.held new.inward) → asked ≡ End → new.taken ≡ old.taken → next ≡ machine → Keeps [] watchers watchers
      → ConnectionTurn Step Keeps (Some Closed) (record { request_reader = request_reader; machine = machine; stream = old; watchers = watchers }) (record { request_reader = request_reader'; machine = next; stream = new; watchers = watchers })
  turn_of_end {F = F} next asked first is same stands none =
      let a : ReadsNextRequest {E = F} request_reader.requests (buffered request_reader.held old.inward) (Ok End) (buffered request_reader'.held new.inward) = subst (λ (q : Asked). ReadsNextRequest {E = F} request_reader.requests (buffered request_reader.held old.inward) (Ok q) (buffered request_reader'.held new.inward)) is first in
      record {
        read = a.read;
        written = [];
        edit = None;
        gave = a.given;
        took = subst (λ (t : List ℕ). TakesBytes old.taken t []) (sym same) (took_none old.taken);
        did = no_more a.answer.0 a.answer.1.0 refl stands refl;
        kept = none;
      }

  module _ {F : Type 0} (next : M) (mid : StreamState) (watchers' : W) (asked : Asked) (reply : SentReply) (edit : Option E) (a : ReadsNextRequest {E = F} request_reader.requests (buffered request_reader.held old.inward) (Ok asked) (buffered request_reader'.held mid.inward))
      (answer : AnswersNextRequest Step machine asked reply edit next) (same_taken : mid.taken ≡ old.taken) (same_inward : new.inward ≡ mid.inward) (kept : Keeps (told edit) watchers watchers') where
    abbrev bytes : List ℕ
    bytes = request_reader.held ++ a.read

    gave : GivesBytes old.inward new.inward a.read
    gave = subst (λ (now : InputState). GivesBytes old.inward now a.read) (sym same_inward) a.given

    -- the reply's write failed
    pub turn_of_failed_write : TakesProperPrefix mid.taken new.taken (reply_bytes reply) → ConnectionTurn Step Keeps (Some WriteFailed) (record { request_reader = request_reader; machine = machine; stream = old; watchers = watchers }) (record { request_reader = request_reader'; machine = next; stream = new; watchers = watchers' })
    turn_of_failed_write cut = record {
      read = a.read;
      written = take cut.0 (reply_bytes reply);
      edit = edit;
      gave = gave;
      took = subst (λ (t : List ℕ). TakesBytes t new.taken (take cut.0 (reply_bytes reply))) same_taken cut.2;
      did = subst (λ (now : InputState). MakesTurn Step (Some WriteFailed) (record { before = request_reader.requests; given = bytes; ended = now.ended }) machine (record { written = take cut.0 (reply_bytes reply); next = next; edit = edit }) request_reader'.held) (sym same_inward)
          (reply_bytes reply, cut.0, cut.1, refl, either_so Step request_reader.requests bytes mid.inward machine next reply edit request_reader'.held asked reply.closes refl a.answer answer);
      kept = kept;
    }

    -- the reply closes
    pub turn_of_close : reply.closes ≡ true → TakesBytes mid.taken new.taken (reply_bytes reply) → ConnectionTurn Step Keeps (Some Closed) (record { request_reader = request_reader; machine = machine; stream = old; watchers = watchers }) (record { request_reader = request_reader'; machine = next; stream = new; watchers = watchers' })
    turn_of_close closes whole = record {
      read = a.read;
      written = reply_bytes reply;
      edit = edit;
      gave = gave;
      took = subst (λ (t : List ℕ). TakesBytes t new.taken (reply_bytes reply)) same_taken whole;
      did = subst (λ (now : InputState). MakesTurn Step (Some Closed) (record { before = request_reader.requests; given = bytes; ended = now.ended }) machine (record { written = reply_bytes reply; next = next; edit = edit }) request_reader'.held) (sym same_inward)
          (ends_so Step request_reader.requests bytes mid.inward machine next reply edit request_reader'.held asked a.answer answer closes);
      kept = kept;
    }

    -- the connection goes on
    pub turn_of_request : reply.closes ≡ false → TakesBytes mid.taken new.taken (reply_bytes reply) → ConnectionTurn Step Keeps None (record { request_reader = request_reader; machine = machine; stream = old; watchers = watchers }) (record { request_reader = request_reader'; machine = next; stream = new; watchers = watchers' })
    turn_of_request goes_on whole = record {
      read = a.read;
      written = reply_bytes reply;
      edit = edit;
      gave = gave;
      took = subst (λ (t : List ℕ). TakesBytes t new.taken (reply_bytes reply)) same_taken whole;
      did = subst (λ (now : InputState). MakesTurn Step None (record { before = request_reader.requests; given = bytes; ended = now.ended }) machine (record { written = reply_bytes reply; next = next; edit = edit }) request_reader'.held) (sym same_inward)
          (goes_so Step request_reader.requests bytes mid.inward machine next reply edit request_reader'.held asked a.answer answer goes_on);
      kept = kept;
    }

    -- a reply was sent
    pub turn_of_sent : (ending : Option CloseReason) → SendsReply ending reply mid.taken new.taken → ConnectionTurn Step Keeps ending (record { request_reader = request_reader; machine = machine; stream = old; watchers = watchers }) (record { request_reader = request_reader'; machine = next; stream = new; watchers = watchers' })
    turn_of_sent None sent = turn_of_request sent.0 sent.1
    turn_of_sent (Some Closed) sent = turn_of_close sent.0 sent.1
    turn_of_sent (Some WriteFailed) sent = turn_of_failed_write sent
    turn_of_sent (Some ReadFailed) sent = absurd sent

-- the reply after which a connection goes on doesn't close
pub sent_open : (ending : Option CloseReason) (reply : SentReply) (old new : List ℕ) → SendsReply ending reply old new → ending ≡ None → reply.closes ≡ false
sent_open None reply old new sent is = sent.0
sent_open (Some ended) reply old new sent is = let no : ⊥ = cc in absurd no

-- a reader whose request is answered without closing goes on
pub gives_on : {M E : Type 0} (F : Type 0) (Step : M → Request → List ℕ → M → Option E → Type 0) (old new : RequestReaderState) (asked : Asked) (machine next : M) (reply : SentReply) (edit : Option E)
    → IsReaderStateAfter {E = F} old (Ok asked) new → AnswersNextRequest Step machine asked reply edit next → reply.closes ≡ false → KeepsOpen old new
gives_on F Step old new (Requested request) machine next reply edit stands (inl (step, same)) goes_on = record { requests = stands.0; open_still = stands.1 ∙ sym same ∙ goes_on }
gives_on F Step old new (Requested request) machine next reply edit stands (inr fix) goes_on = fixed_closes 503 machine next reply edit fix goes_on
gives_on F Step old new Bad machine next reply edit stands fix goes_on = fixed_closes 400 machine next reply edit fix goes_on
gives_on F Step old new TooLong machine next reply edit stands fix goes_on = fixed_closes 413 machine next reply edit fix goes_on
gives_on F Step old new Coded machine next reply edit stands fix goes_on = fixed_closes 501 machine next reply edit fix goes_on
gives_on F Step old new End machine next reply edit stands answer goes_on = absurd answer
gives_on F Step old new NoMemory machine next reply edit stands fix goes_on = fixed_closes 503 machine next reply edit fix goes_on
