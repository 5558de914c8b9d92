-- What a turn leaves of a connection and its seat.
use Rattle.std.proofs.Common.{◌≡◌, ◌≢◌, ℕ, ◌+◌, ◌≤◌, ◌⊎◌, inl, inr, Bool, false, List, [], ◌∷◌, ◌++◌, length, take, drop, Option, None, Some, refl, sym, ap, subst, ◌∙◌, append_assoc, arith}
use Rattle.std.specs.Prelude.{slice_set, option_to_list}
use Rattle.std.proofs.lemmas.List.{append-nil, take-append-drop, length-append, set-get_or}
use Rattle.halls.specs.HallState.{ConnectionState, HallState, connection_at, new_connection}
use Rattle.http_feed.specs.Feeds.{with_bytes}
use Rattle.http_wire.specs.declared.request.Request.{Request}
use Rattle.http_wire.specs.NextRequests.{RequestReaderState}
use Rattle.hall_serve.specs.Exchanges.{AreExchanges, Exchange, edits, exchanges_on, replies}
use Rattle.hall_serve.specs.Seats.{IsSeatAt, MatchesSeats, SeatState, seat_at}
use Rattle.hall_serve.specs.ServedConnections.{EndsAfter, IsServed, after_break, after_reply, at_end, BeginsWithItem, BeginsWithItems}
use Rattle.hall_serve.specs.ServedHalls.{HallServer, HasServed, HoldsRest, TriesInOrder, tries}
use Rattle.hall_serve.specs.ServedInTurn.{AreInTurn}
use Rattle.hall_serve.specs.inner.SeatTurns.{AnswersFirst, IsSeatAfter, IsToClose, PassesBytes, SeatServer, ServesSeat, answers, broke, closed, found_end, nothing, passes, replied, set_connection, some_read, some_written}
use Rattle.hall_serve.proofs.ExchangeLists.{items_after, on-one, last_added, one_item_more, replies-append}
use Rattle.hall_serve.proofs.ExchangesInTurn.{in_turn_more}
use Rattle.hall_serve.proofs.OneConnection.{Outcome, StaysSeated, line_other, line_same, matches_still, none_made, one_made, served_still, size₁}

-- ---- the seat

module _ (hall : HallState) (k : ℕ) (old : SeatState) (is : IsSeatAt hall k old) where
  after_stays : (seat : SeatState) (reader : RequestReaderState) (pending : List ℕ) (ended : Bool) (line' : ConnectionState) → IsSeatAfter old reader pending ended seat
      → line'.place ≡ (connection_at hall old.id.number).place → line'.closed ≡ (connection_at hall old.id.number).closed → ended ≡ line'.ended
      → reader.spent ≡ old.feed.reader.spent → reader.requests ≡ old.feed.reader.requests
      → line'.broken ≡ (connection_at hall old.id.number).broken → StaysSeated old (Some seat) (connection_at hall old.id.number) line'
  after_stays seat reader pending ended line' after place still end spent requests whole = (
    after.same_id,
    place,
    still ∙ is.is_open.not_closed,
    after.ended ∙ end,
    (λ goes_on. ap (λ (r : RequestReaderState). r.spent) after.reader ∙ spent ∙ is.unspent (sym after.same_closing ∙ goes_on)),
    (λ goes_on. let few = is.few_requests (sym after.same_closing ∙ goes_on) in
        let same : seat.feed.reader.requests ≡ old.feed.reader.requests = ap (λ (r : RequestReaderState). r.requests) after.reader ∙ requests in
        omega (arith, few, same)),
    whole ∙ is.unbroken,
  )

  stays_as : (new : Option SeatState) (seat : SeatState) (line' : ConnectionState) → new ≡ Some seat → StaysSeated old (Some seat) (connection_at hall old.id.number) line' → StaysSeated old new (connection_at hall old.id.number) line'
  stays_as new seat line' now s = subst (λ (o : Option SeatState). StaysSeated old o (connection_at hall old.id.number) line') (sym now) s

  pub passed_stays : (new : Option SeatState) (line' : ConnectionState) → PassesBytes old new (connection_at hall old.id.number) line' → StaysSeated old new (connection_at hall old.id.number) line'
  passed_stays new line' (nothing reads writes seat now after line) =
      stays_as new seat line' now (after_stays seat old.feed.reader old.pending old.ended line' after (ap (λ (c : ConnectionState). c.place) line) (ap (λ (c : ConnectionState). c.closed) line)
      (is.same_end ∙ ap (λ (c : ConnectionState). c.ended) (sym line)) refl refl (ap (λ (c : ConnectionState). c.broken) line))
  passed_stays new line' (some_read count buf reads writes seat now not_ended after line) =
      stays_as new seat line' now (after_stays seat (with_bytes old.feed.reader (take count buf)) old.pending line'.ended line' after (ap (λ (c : ConnectionState). c.place) line) (ap (λ (c : ConnectionState). c.closed) line) refl refl refl (ap (λ (c : ConnectionState). c.broken) line))
  passed_stays new line' (some_written count reads writes seat now after line) =
      stays_as new seat line' now (after_stays seat old.feed.reader (drop count old.pending) old.ended line' after (ap (λ (c : ConnectionState). c.place) line) (ap (λ (c : ConnectionState). c.closed) line)
      (is.same_end ∙ ap (λ (c : ConnectionState). c.ended) (sym line)) refl refl (ap (λ (c : ConnectionState). c.broken) line))
  passed_stays new line' (closed reads writes is_broken now why line) =
      subst (λ (o : Option SeatState). StaysSeated old o (connection_at hall old.id.number) line') (sym now) (ap (λ (c : ConnectionState). c.closed) line)

-- ---- the exchanges on the connection

module _ {E : Type 0} (old : SeatState) (line : ConnectionState) (mine : List (Exchange E)) (still : line.closed ≡ false) (holds : HoldsRest old line mine) where
  outcome_as : (new : Option SeatState) (seat : SeatState) (line' : ConnectionState) → new ≡ Some seat → (seat.id ≡ old.id) × (line'.closed ≡ false) × HoldsRest seat line' mine → Outcome old new line' (mine ++ [])
  outcome_as new seat line' now o =
      subst (λ (o : Option SeatState). Outcome old o line' (mine ++ [])) (sym now)
      (subst (λ (m : List (Exchange E)). (seat.id ≡ old.id) × (line'.closed ≡ false) × HoldsRest seat line' m) (sym (append-nil mine)) o)

  -- nothing passed, or bytes were written
  same_holds : (seat : SeatState) (pending taken : List ℕ) (line' : ConnectionState) → IsSeatAfter old old.feed.reader pending old.ended seat → line'.given ≡ line.given → line'.ended ≡ line.ended → line'.taken ≡ taken
      → line.taken ++ old.pending ≡ taken ++ pending → HoldsRest seat line' mine
  same_holds seat pending taken line' after given end took same = record {
    rest = holds.rest;
    begins = subst (λ (l : List ℕ). BeginsWithItems 0 l line'.ended mine holds.rest) (sym given) (subst (λ (b : Bool). BeginsWithItems 0 line.given b mine holds.rest) (sym end) holds.begins);
    held = λ goes_on. ap (λ (r : RequestReaderState). r.held) after.reader ∙ holds.held (sym after.same_closing ∙ goes_on);
    counted = λ goes_on. ap (λ (r : RequestReaderState). r.requests) after.reader ∙ holds.counted (sym after.same_closing ∙ goes_on);
    wrote = holds.wrote ∙ same ∙ ap (λ (l : List ℕ). l ++ pending) (sym took) ∙ ap (λ (l : List ℕ). line'.taken ++ l) (sym after.pending);
    closing = after.same_closing ∙ holds.closing;
  }

  -- bytes were read, or their end was found
  read_holds : (seat : SeatState) (bytes : List ℕ) (line' : ConnectionState) → line.ended ≡ false → IsSeatAfter old (with_bytes old.feed.reader bytes) old.pending line'.ended seat → line'.given ≡ line.given ++ bytes
      → line'.taken ≡ line.taken → HoldsRest seat line' mine
  read_holds seat bytes line' not_ended after given took = record {
    rest = holds.rest ++ bytes;
    begins = subst (λ (l : List ℕ). BeginsWithItems 0 l line'.ended mine (holds.rest ++ bytes)) (sym given)
        (items_after 0 line.given bytes line'.ended mine holds.rest (subst (λ (b : Bool). BeginsWithItems 0 line.given b mine holds.rest) not_ended holds.begins));
    held = λ goes_on. ap (λ (r : RequestReaderState). r.held) after.reader ∙ ap (λ (l : List ℕ). l ++ bytes) (holds.held (sym after.same_closing ∙ goes_on));
    counted = λ goes_on. ap (λ (r : RequestReaderState). r.requests) after.reader ∙ holds.counted (sym after.same_closing ∙ goes_on);
    wrote = holds.wrote ∙ ap (λ (l : List ℕ). l ++ old.pending) (sym took) ∙ ap (λ (l : List ℕ). line'.taken ++ l) (sym after.pending);
    closing = after.same_closing ∙ holds.closing;
  }

  ends_so : (line' : ConnectionState) → IsToClose old line' → line'.ended ≡ line.ended → EndsAfter line' mine holds.rest old.pending
  ends_so line' (broke is) end = after_break is
  ends_so line' (replied none last) end = after_reply none (sym holds.closing ∙ last)
  ends_so line' (found_end none goes_on is empty) end = at_end none is (sym (holds.held goes_on) ∙ empty)

  pub passed_outcome : (new : Option SeatState) (line' : ConnectionState) → old.ended ≡ line.ended → PassesBytes old new line line' → Outcome old new line' (mine ++ [])
  passed_outcome new line' end (nothing reads writes seat now after is) =
      outcome_as new seat line' now (
        after.same_id,
        ap (λ (c : ConnectionState). c.closed) is ∙ still,
        same_holds seat old.pending line.taken line' after (ap (λ (c : ConnectionState). c.given) is) (ap (λ (c : ConnectionState). c.ended) is) (ap (λ (c : ConnectionState). c.taken) is) refl,
      )
  passed_outcome new line' end (some_read count buf reads writes seat now not_ended after is) =
      outcome_as new seat line' now (
        after.same_id,
        ap (λ (c : ConnectionState). c.closed) is ∙ still,
        read_holds seat (take count buf) line' (sym end ∙ not_ended) after (ap (λ (c : ConnectionState). c.given) is) (ap (λ (c : ConnectionState). c.taken) is),
      )
  passed_outcome new line' end (some_written count reads writes seat now after is) =
      outcome_as new seat line' now (
        after.same_id,
        ap (λ (c : ConnectionState). c.closed) is ∙ still,
        same_holds seat (drop count old.pending) (line.taken ++ take count old.pending) line' after (ap (λ (c : ConnectionState). c.given) is) (ap (λ (c : ConnectionState). c.ended) is) (ap (λ (c : ConnectionState). c.taken) is)
            (ap (λ (l : List ℕ). line.taken ++ l) (sym (take-append-drop count old.pending)) ∙ sym (append_assoc line.taken (take count old.pending) (drop count old.pending))),
      )
  passed_outcome new line' end (closed reads writes is_broken now why is) =
      let ended' : line'.ended ≡ line.ended = ap (λ (c : ConnectionState). c.ended) is in
      subst (λ (o : Option SeatState). Outcome old o line' (mine ++ [])) (sym now)
      (subst (λ (m : List (Exchange E)). IsServed line' m) (sym (append-nil mine)) (record {
        rest = holds.rest;
        pending = old.pending;
        begins = subst (λ (l : List ℕ). BeginsWithItems 0 l line'.ended mine holds.rest) (ap (λ (c : ConnectionState). c.given) (sym is)) (subst (λ (b : Bool). BeginsWithItems 0 line.given b mine holds.rest) (sym ended') holds.begins);
        wrote = holds.wrote ∙ ap (λ (c : ConnectionState). c.taken ++ old.pending) (sym is);
        ends = λ _. ends_so line' (to_close (record line { broken = is_broken }) line' why (ap (λ (c : ConnectionState). c.broken) (sym is)) (sym ended')) ended';
      }))
    where
      to_close : (a b : ConnectionState) → IsToClose old a → a.broken ≡ b.broken → a.ended ≡ b.ended → IsToClose old b
      to_close a b (broke is) same end = broke (sym same ∙ is)
      to_close a b (replied none last) same end = replied none last
      to_close a b (found_end none goes_on is empty) same end = found_end none goes_on (sym end ∙ is) empty

-- ---- an item was answered

-- Only the connection of this seat changed, which was reported ready `ready` times.
pub record ChangesOne (ready : ℕ) (old : SeatState) (hall hall' : HallState) : Type 0 where
  pub connection : ConnectionState
  pub only_that : hall' ≡ set_connection hall old.id.number connection
  pub here : connection_at (set_connection hall old.id.number connection) old.id.number ≡ connection
  pub others : (n : ℕ) → n ≢ old.id.number → connection_at (set_connection hall old.id.number connection) n ≡ connection_at hall n
  pub same_count : length (set_connection hall old.id.number connection).connections ≡ length hall.connections
  pub same_reports : connection.reports ≡ (connection_at hall old.id.number).reports
  pub in_order : TriesInOrder old ready (connection_at hall old.id.number) connection

-- Exchanges were made on the connection of this number, or something was tried on it.
pub record MakesExchanges {M E W : Type 0} (Step : M → Request → List ℕ → M → Option E → Type 0) (Keeps : List E → W → W → Type 0) (ready failures n : ℕ) (before : List (Exchange E)) (old new : HallServer M W) : Type 0 where
  pub more : List (Exchange E)
  pub steps : AreExchanges Step old.machine more new.machine
  pub served : HasServed new.hall new.seats (before ++ more)
  pub kept : Keeps (edits more) old.watchers new.watchers
  pub tried : ready + tries (connection_at old.hall n) ≤ tries (connection_at new.hall n) + (length (exchanges_on n more) + failures)

module _ {M E W : Type 0} (Step : M → Request → List ℕ → M → Option E → Type 0) (Keeps : List E → W → W → Type 0) where
  answered_stays : (hall : HallState) (k : ℕ) (old new : SeatServer M W) → IsSeatAt hall k old.seat → AnswersFirst Step Keeps old new → StaysSeated old.seat (Some new.seat) (connection_at hall old.seat.id.number) (connection_at hall old.seat.id.number)
  answered_stays hall k old new is a = (
    a.same_id,
    refl,
    is.is_open.not_closed,
    a.same_end ∙ is.same_end,
    (λ goes_on. ap (λ (r : RequestReaderState). r.spent) (a.reader goes_on)),
    (λ goes_on. let few = a.few_requests goes_on in let e = ap (λ (r : RequestReaderState). r.requests) (a.reader goes_on) in omega (arith, few, e)),
    is.unbroken,
  )

  answered_holds : (line : ConnectionState) (old new : SeatServer M W) (mine : List (Exchange E)) → old.seat.ended ≡ line.ended → HoldsRest old.seat line mine → (a : AnswersFirst Step Keeps old new) → HoldsRest new.seat line (mine ++ a.exchange ∷ [])
  answered_holds line old new mine end holds a =
      let count = holds.counted a.goes_on in
      let held = holds.held a.goes_on in
      let one = a.exchange in
      record {
        rest = a.rest;
        begins = one_item_more 0 line.given line.ended mine one holds.rest a.rest (sym holds.closing ∙ a.goes_on) holds.begins
            (subst (λ (n : ℕ). BeginsWithItem n holds.rest line.ended one.item a.rest) (let here : length mine ≡ 0 + length mine = omega arith in here)
            (subst (λ (b : Bool). BeginsWithItem (length mine) holds.rest b one.item a.rest) end
            (subst (λ (l : List ℕ). BeginsWithItem (length mine) l old.seat.ended one.item a.rest) held
            (subst (λ (n : ℕ). BeginsWithItem n old.seat.feed.reader.held old.seat.ended one.item a.rest) count a.first))));
        held = λ goes_on. ap (λ (r : RequestReaderState). r.held) (a.reader goes_on);
        counted = λ goes_on. ap (λ (r : RequestReaderState). r.requests) (a.reader goes_on) ∙ ap (λ (n : ℕ). n + 1) count ∙ sym (length-append mine (one ∷ []));
        wrote = replies-append mine (one ∷ []) ∙ ap (λ (l : List ℕ). replies mine ++ l) (append-nil one.reply)
            ∙ ap (λ (l : List ℕ). l ++ one.reply) (holds.wrote ∙ ap (λ (l : List ℕ). line.taken ++ l) a.none_pending ∙ append-nil line.taken)
            ∙ ap (λ (l : List ℕ). line.taken ++ l) (sym a.pending);
        closing = a.closing ∙ sym (last_added mine one);
      }

  -- ---- one turn of a seat, in the hall

  module _ (hall : HallState) (seats : List (Option SeatState)) (matches : MatchesSeats hall seats) (k : ℕ) (old : SeatState) (at : seat_at seats k ≡ Some old) where
    -- the hall where nothing changed
    set_same : set_connection hall old.id.number (connection_at hall old.id.number) ≡ hall
    set_same = ap (λ (l : List ConnectionState). record hall { connections = l }) (set-get_or hall.connections old.id.number (new_connection 0 None))

    not_closed : (connection_at hall old.id.number).closed ≡ false
    not_closed = (matches.seated k old at).is_open.not_closed

    pub turn_matches : (ready failures : ℕ) (machine machine' : M) (w w' : W) (new : Option SeatState) (hall' : HallState) → ServesSeat Step Keeps ready failures (record { machine = machine; seat = old; watchers = w }) new machine' w' hall hall' → MatchesSeats hall' (slice_set seats k new)
    turn_matches ready failures machine machine' w w' new hall' (passes p same kept) =
        subst (λ (h : HallState). MatchesSeats h (slice_set seats k new)) (sym p.only_that)
        (matches_still hall seats matches k old at new p.connection (passed_stays hall k old (matches.seated k old at) new p.connection p.passes))
    turn_matches ready failures machine machine' w w' new hall' (answers seat now a same) =
        subst (λ (h : HallState). MatchesSeats h (slice_set seats k new)) (set_same ∙ sym same)
        (matches_still hall seats matches k old at new (connection_at hall old.id.number)
        (subst (λ (o : Option SeatState). StaysSeated old o (connection_at hall old.id.number) (connection_at hall old.id.number)) (sym now)
        (answered_stays hall k (record { machine = machine; seat = old; watchers = w }) (record { machine = machine'; seat = seat; watchers = w' }) (matches.seated k old at) a)))

    pub turn_serves : (ready failures : ℕ) → ready ≤ 1 → (machine machine' : M) (w w' : W) (new : Option SeatState) (hall' : HallState) → ServesSeat Step Keeps ready failures (record { machine = machine; seat = old; watchers = w }) new machine' w' hall hall'
        → (all : List (Exchange E)) → HasServed hall seats all → MakesExchanges Step Keeps ready failures old.id.number all (record { machine = machine; hall = hall; seats = seats; watchers = w }) (record { machine = machine'; hall = hall'; seats = slice_set seats k new; watchers = w' })
    turn_serves ready failures once machine machine' w w' new hall' (passes p same kept) all served = record {
      more = [];
      steps = same;
      served = subst (λ (h : HallState). HasServed h (slice_set seats k new) (all ++ [])) (sym p.only_that)
          (served_still hall seats matches all served k old at new p.connection [] (none_made old.id.number) (λ _ t. subst (AreInTurn 0) (sym (append-nil all)) t)
          (passed_outcome old (connection_at hall old.id.number) (exchanges_on old.id.number all) not_closed (served.seated k old at) new p.connection (matches.seated k old at).same_end p.passes));
      kept = kept;
      tried = let here = ap tries (changed p.connection p.only_that) in let t = p.tried in omega (arith, here, t);
    }
      where
        changed : (line' : ConnectionState) → hall' ≡ set_connection hall old.id.number line' → connection_at hall' old.id.number ≡ line'
        changed line' is = ap (λ (h : HallState). connection_at h old.id.number) is ∙ line_same hall seats matches k old at new line'
    turn_serves ready failures once machine machine' w w' new hall' (answers seat now a same) all served =
        let line : ConnectionState = connection_at hall old.id.number in
        let mine : List (Exchange E) = exchanges_on old.id.number all in
        let before : SeatServer M W = record { machine = machine; seat = old; watchers = w } in
        let after : SeatServer M W = record { machine = machine'; seat = seat; watchers = w' } in
        record {
          more = a.exchange ∷ [];
          steps = (machine', a.is_exchange, refl);
          served = subst (λ (h : HallState). HasServed h (slice_set seats k new) (all ++ a.exchange ∷ [])) (set_same ∙ sym same)
              (served_still hall seats matches all served k old at new line (a.exchange ∷ []) (one_made old.id.number a.exchange a.on_connection)
              (λ latest t. in_turn_more 0 old.id.number all a.exchange (omega arith) t (λ n later. served.none_after n (omega (arith, latest, later))) a.on_connection)
              (subst (λ (o : Option SeatState). Outcome old o line (mine ++ a.exchange ∷ [])) (sym now)
              (a.same_id, not_closed, answered_holds line before after mine (matches.seated k old at).same_end (served.seated k old at) a)));
          kept = subst (λ (es : List E). Keeps es w w') (sym (append-nil (option_to_list a.exchange.edit))) a.kept;
          tried =
              let one = ap length (on-one old.id.number a.exchange a.on_connection) in
              let here = ap (λ (h : HallState). tries (connection_at h old.id.number)) same in
              omega (arith, one, here, once);
        }

    -- what changed in the hall
    pub turn_changes : (ready failures : ℕ) (machine machine' : M) (w w' : W) (new : Option SeatState) (hall' : HallState) → ServesSeat Step Keeps ready failures (record { machine = machine; seat = old; watchers = w }) new machine' w' hall hall' → ChangesOne ready old hall hall'
    turn_changes ready failures machine machine' w w' new hall' (passes p same kept) = record {
      connection = p.connection;
      only_that = p.only_that;
      here = line_same hall seats matches k old at new p.connection;
      others = line_other hall seats matches k old at new p.connection;
      same_count = size₁ hall seats matches k old at new p.connection;
      same_reports = p.same_reports;
      in_order = p.in_order;
    }
    turn_changes ready failures machine machine' w w' new hall' (answers seat now a same) = record {
      connection = connection_at hall old.id.number;
      only_that = same ∙ sym set_same;
      here = line_same hall seats matches k old at new (connection_at hall old.id.number);
      others = line_other hall seats matches k old at new (connection_at hall old.id.number);
      same_count = size₁ hall seats matches k old at new (connection_at hall old.id.number);
      same_reports = refl;
      in_order = record { writes = λ some. absurd (let none = ap length a.none_pending in let no : ⊥ = omega (arith, some, none) in no); reads = inl refl };
    }

    -- either no byte was written, or nothing was answered
    pub turn_either : (ready failures : ℕ) (machine machine' : M) (w w' : W) (new : Option SeatState) (hall' : HallState) → ServesSeat Step Keeps ready failures (record { machine = machine; seat = old; watchers = w }) new machine' w' hall hall'
        → (hall' ≡ hall) ⊎ ((machine' ≡ machine) × Keeps [] w w')
    turn_either ready failures machine machine' w w' new hall' (passes p same kept) = inr (same, kept)
    turn_either ready failures machine machine' w w' new hall' (answers seat now a same) = inl same
