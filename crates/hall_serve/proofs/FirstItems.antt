-- What came of the bytes held, as the exchange that was made of it.
use Rattle.std.proofs.Common.{◌≡◌, ℕ, ◌+◌, ◌<◌, inl, inr, Bool, true, false, true≢false, List, [], Option, None, Some, Result, Ok, Err, refl, sym, ap, subst, ◌∙◌, if◌then◌else◌}
use Rattle.std.specs.Prelude.{option_to_list}
use Rattle.reply_text.specs.ReplyHeads.{SentReply, reply_bytes}
use Rattle.http_wire.specs.declared.limits.TheConstants.{MAX_REQUESTS}
use Rattle.http_wire.specs.declared.request.Request.{Request}
use Rattle.http_wire.specs.declared.request.Asked.{Asked}
use Rattle.http_wire.specs.declared.request.Asked.TheVariants.{Request as Requested, Bad, TooLong, Coded, End, NoMemory}
use Rattle.http_wire.specs.ConnectionItems.{Item, asks, bad, too_long, coded}
use Rattle.http_wire.specs.NextRequests.{RequestReaderState}
use Rattle.http_feed.specs.Feeds.{IsNextOf, ReturnsItem}
use Rattle.http_serve.proofs.TurnLemmas.{few_requests}
use Rattle.http_serve.specs.ItemAnswers.{AnswersNextRequest, IsFixedReply, IsNoneOrReadRequest}
use Rattle.hall_serve.specs.Exchanges.{Exchange, IsExchange, answered, no_memory}
use Rattle.hall_serve.specs.ServedConnections.{BeginsWithItem}
use Rattle.hall_serve.specs.Seats.{SeatState}
use Rattle.hall_serve.specs.inner.SeatTurns.{AnswersFirst, IsItemOf, IsSameSeat, IsSeatAfter, SeatServer}

-- a request that was returned was read
pub returned_read : (ended : Bool) (old new : RequestReaderState) (asked : Asked) → ReturnsItem ended old asked new → IsNoneOrReadRequest asked
returned_read ended old new (Requested request) r = record { before = old.requests; bytes = old.held; rest = r.rest; asked = r.decided }
returned_read ended old new Bad r = tt
returned_read ended old new TooLong r = tt
returned_read ended old new Coded r = tt
returned_read ended old new End r = tt
returned_read ended old new NoMemory r = tt

-- where the end was returned, no bytes are held and a read found their end
pub ends_so : (ended : Bool) (old new : RequestReaderState) (asked : Asked) → ReturnsItem ended old asked new → asked ≡ End → (old.held ≡ []) × (ended ≡ true)
ends_so ended old new asked r is = let s : ReturnsItem ended old End new = subst (λ (a : Asked). ReturnsItem ended old a new) is r in s.decided

-- the next item, where no read found the end
pub next_of : {E : Type 0} (ended : Bool) (old new : RequestReaderState) (r : Result (Option Asked) E) → ended ≡ false → IsNextOf old r new → IsItemOf ended old r new
next_of ended old new (Ok (Some asked)) still is = subst (λ (b : Bool). ReturnsItem b old asked new) (sym still) is
next_of ended old new (Ok None) still is = (still, is.0.unfinished, is.1)
next_of ended old new (Err e) still is = is

-- a seat of which only the feed was looked at, and whose reader is the same
pub same_after : (old new : SeatState) → IsSeatAfter old new.feed.reader old.pending old.ended new → new.feed.reader ≡ old.feed.reader → IsSameSeat old new
same_after old new after same = record { same_id = after.same_id; reader = same; pending = after.pending; same_closing = after.same_closing; ended = after.ended }

abbrev reader_of : List ℕ → ℕ → Bool → RequestReaderState
reader_of held requests spent = record { held = held; requests = requests; spent = spent }

-- a reader, by its parts
reader_is : (r : RequestReaderState) (held : List ℕ) (requests : ℕ) → r.held ≡ held → r.requests ≡ requests → r.spent ≡ false → r ≡ reader_of held requests false
reader_is r held requests a b c = ap (λ (l : List ℕ). reader_of l r.requests r.spent) a ∙ ap (λ (n : ℕ). reader_of held n r.spent) b ∙ ap (λ (s : Bool). reader_of held requests s) c

module _ {M E W : Type 0} (Step : M → Request → List ℕ → M → Option E → Type 0) (Keeps : List E → W → W → Type 0) (old new : SeatServer M W) (reply : SentReply) (edit : Option E)
    (goes_on : old.seat.closing ≡ false) (none : old.seat.pending ≡ []) (few : old.seat.feed.reader.requests < MAX_REQUESTS)
    (same_id : new.seat.id ≡ old.seat.id) (same_end : new.seat.ended ≡ old.seat.ended) (pending : new.seat.pending ≡ reply_bytes reply) (closing : new.seat.closing ≡ reply.closes)
    (kept : Keeps (option_to_list edit) old.watchers new.watchers) where
  abbrev made : Item → Exchange E
  made item = record { connection = old.seat.id.number; item = item; reply = reply_bytes reply; edit = edit; closes = reply.closes }

  -- the reply closes
  closes_so : (item : Item) (rest : List ℕ) → BeginsWithItem old.seat.feed.reader.requests old.seat.feed.reader.held old.seat.ended item rest → IsExchange Step old.machine (made item) new.machine → reply.closes ≡ true → AnswersFirst Step Keeps old new
  closes_so item rest first is closes = record {
    exchange = made item;
    rest = rest;
    on_connection = refl;
    goes_on = goes_on;
    none_pending = none;
    first = first;
    is_exchange = is;
    same_id = same_id;
    same_end = same_end;
    pending = pending;
    closing = closing;
    reader = λ open_still. absurd (true≢false (sym (closing ∙ closes) ∙ open_still));
    few_requests = λ open_still. absurd (true≢false (sym (closing ∙ closes) ∙ open_still));
    kept = kept;
  }

  fixed_so : (item : Item) (rest : List ℕ) (status : ℕ) → BeginsWithItem old.seat.feed.reader.requests old.seat.feed.reader.held old.seat.ended item rest → IsFixedReply status old.machine reply edit new.machine
      → (reply.closes ≡ true → IsExchange Step old.machine (made item) new.machine) → AnswersFirst Step Keeps old new
  fixed_so item rest status first fix is = let closes = ap (λ (r : SentReply). r.closes) fix.0 in closes_so item rest first (is closes) closes

  pub first_answered : (asked : Asked) → ReturnsItem old.seat.ended old.seat.feed.reader asked new.seat.feed.reader → AnswersNextRequest Step old.machine asked reply edit new.machine → AnswersFirst Step Keeps old new
  first_answered (Requested request) r (inl (step, same)) = record {
    exchange = made (asks request);
    rest = r.rest;
    on_connection = refl;
    goes_on = goes_on;
    none_pending = none;
    first = r.decided;
    is_exchange = answered same step;
    same_id = same_id;
    same_end = same_end;
    pending = pending;
    closing = closing;
    reader = λ stays.
        let unspent : new.seat.feed.reader.spent ≡ false = r.after.1 ∙ sym same ∙ sym closing ∙ stays in
        reader_is new.seat.feed.reader r.rest (old.seat.feed.reader.requests + 1) (r.held ∙ ap (λ (b : Bool). if b then [] else r.rest) unspent) r.after.0 unspent;
    few_requests = λ stays. few_requests Step (record { before = old.seat.feed.reader.requests; given = old.seat.feed.reader.held; ended = old.seat.ended }) old.machine (record { written = reply_bytes reply; next = new.machine; edit = edit }) r.rest few
        (record { request = request; asked = r.decided; stays = sym same ∙ sym closing ∙ stays; step = step });
    kept = kept;
  }
  first_answered (Requested request) r (inr fix) = fixed_so (asks request) r.rest 503 r.decided fix (λ closes. no_memory request refl closes (ap reply_bytes fix.0) fix.1 fix.2)
  first_answered Bad r fix = fixed_so bad r.rest 400 r.decided fix (λ closes. answered closes (ap reply_bytes fix.0, fix.2, fix.1))
  first_answered TooLong r fix = fixed_so too_long r.rest 413 r.decided fix (λ closes. answered closes (ap reply_bytes fix.0, fix.2, fix.1))
  first_answered Coded r fix = fixed_so coded r.rest 501 r.decided fix (λ closes. answered closes (ap reply_bytes fix.0, fix.2, fix.1))
  first_answered End r answer = absurd answer
  first_answered NoMemory r fix = let d = r.decided in fixed_so (asks d.0) d.1 503 d.2 fix (λ closes. no_memory d.0 refl closes (ap reply_bytes fix.0) fix.1 fix.2)
