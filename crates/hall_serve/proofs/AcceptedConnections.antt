-- What is true between two turns is so after a connection began, whose seat is at a place that was free.
use Rattle.std.proofs.Common.{◌≡◌, ◌≢◌, ℕ, ◌+◌, ◌<◌, ◌≤◌, ◌==◌, ◌⊎◌, inl, inr, true, false, true≢false, List, [], ◌∷◌, ◌++◌, length, Option, None, Some, refl, sym, ap, subst, ◌∙◌, arith}
use Rattle.std.specs.Prelude.{leb, slice_set, slice_index_or}
use Rattle.std.proofs.lemmas.List.{append-nil, get_or_past, get_or-set_same, get_or-set_other, length-set}
use Rattle.std.proofs.lemmas.Bool.Decides.{eqb_tells, leb_tells}
use Rattle.halls.specs.HallState.{ConnectionState, HallState, connection_at, new_connection}
use Rattle.halls.specs.declared.hall.ConnectionId.{ConnectionId}
use Rattle.http_wire.specs.declared.request.Request.{Request}
use Rattle.hall_serve.specs.Exchanges.{Exchange, exchanges_on}
use Rattle.hall_serve.specs.Seats.{HasSeat, IsSeatAt, MatchesSeats, SeatState, seat_at}
use Rattle.hall_serve.specs.inner.NewSeats.{new_seat}
use Rattle.hall_serve.specs.ServedConnections.{IsServed}
use Rattle.hall_serve.specs.ServedHalls.{AreTriesInOrder, GoesInTurn, HasServed, HoldsRest, ServesOn, tries}
use Rattle.hall_serve.proofs.ListPlaces.{at-before, at-end, is_within, length-more, none_some, some_inj}
use Rattle.hall_serve.proofs.TurnOutcomes.{same_in_order}

module _ (hall hall' : HallState) (seats : List (Option SeatState)) (place : ℕ) (left : Option (List ℕ)) (id : ConnectionId)
    (more : hall'.connections ≡ hall.connections ++ new_connection place left ∷ []) (at_place : id.place ≡ place) (next : id.number ≡ length hall.connections)
    (matches : MatchesSeats hall seats) (within : place < length seats) (free : seat_at seats place ≡ None) where
  abbrev none : ConnectionState
  none = new_connection 0 None

  abbrev begun : ConnectionState
  begun = new_connection place left

  abbrev seats₁ : List (Option SeatState)
  seats₁ = slice_set seats place (Some (new_seat id))

  size : length hall'.connections ≡ length hall.connections + 1
  size = ap length more ∙ length-more hall.connections begun

  line_new : connection_at hall' (length hall.connections) ≡ begun
  line_new = ap (λ (l : List ConnectionState). slice_index_or l (length hall.connections) none) more ∙ at-end hall.connections begun none

  line_old : (n : ℕ) → n < length hall.connections → connection_at hall' n ≡ connection_at hall n
  line_old n inside = ap (λ (l : List ConnectionState). slice_index_or l n none) more ∙ at-before hall.connections begun none n inside

  seat_new : seat_at seats₁ place ≡ Some (new_seat id)
  seat_new = get_or-set_same seats place (Some (new_seat id)) None within

  seat_old : (j : ℕ) → j ≢ place → seat_at seats₁ j ≡ seat_at seats j
  seat_old j other = get_or-set_other seats place j (Some (new_seat id)) None other

  seat_by : (j : ℕ) (seat : SeatState) → seat_at seats₁ j ≡ Some seat → ((j ≡ place) × (new_seat id ≡ seat)) ⊎ ((j ≢ place) × (seat_at seats j ≡ Some seat))
  seat_by j seat is = by_test (eqb_tells j place)
    where
      by_test : (((j == place) ≡ true) × (j ≡ place)) ⊎ (((j == place) ≡ false) × (j ≢ place)) → ((j ≡ place) × (new_seat id ≡ seat)) ⊎ ((j ≢ place) × (seat_at seats j ≡ Some seat))
      by_test (inl (_, same)) = inl (same, some_inj (new_seat id) seat (sym seat_new ∙ ap (seat_at seats₁) (sym same) ∙ is))
      by_test (inr (_, other)) = inr (other, sym (seat_old j other) ∙ is)

  line_of_new : connection_at hall' id.number ≡ begun
  line_of_new = ap (connection_at hall') next ∙ line_new

  new_seated : IsSeatAt hall' place (new_seat id)
  new_seated = record {
    at_place = at_place;
    is_open = record {
      begun = let e = size in omega (arith, e, next);
      at_place = ap (λ (c : ConnectionState). c.place) line_of_new ∙ sym at_place;
      not_closed = ap (λ (c : ConnectionState). c.closed) line_of_new;
    };
    unbroken = ap (λ (c : ConnectionState). c.broken) line_of_new;
    same_end = ap (λ (c : ConnectionState). c.ended) (sym line_of_new);
    unspent = λ _. refl;
    few_requests = λ _. omega arith;
  }

  old_seated : (j : ℕ) (seat : SeatState) → IsSeatAt hall j seat → IsSeatAt hall' j seat
  old_seated j seat s =
      let same = line_old seat.id.number s.is_open.begun in
      record {
        at_place = s.at_place;
        is_open = record {
          begun = let b = s.is_open.begun in let e = size in omega (arith, b, e);
          at_place = ap (λ (c : ConnectionState). c.place) same ∙ s.is_open.at_place;
          not_closed = ap (λ (c : ConnectionState). c.closed) same ∙ s.is_open.not_closed;
        };
        unbroken = ap (λ (c : ConnectionState). c.broken) same ∙ s.unbroken;
        same_end = s.same_end ∙ ap (λ (c : ConnectionState). c.ended) (sym same);
        unspent = s.unspent;
        few_requests = s.few_requests;
      }

  seated' : (j : ℕ) (seat : SeatState) → seat_at seats₁ j ≡ Some seat → IsSeatAt hall' j seat
  seated' j seat is = by_case (seat_by j seat is)
    where
      by_case : ((j ≡ place) × (new_seat id ≡ seat)) ⊎ ((j ≢ place) × (seat_at seats j ≡ Some seat)) → IsSeatAt hall' j seat
      by_case (inl (here, same)) = subst (λ (i : ℕ). IsSeatAt hall' i seat) (sym here) (subst (IsSeatAt hall' place) same new_seated)
      by_case (inr (_, before)) = old_seated j seat (matches.seated j seat before)

  covered' : (n : ℕ) → n < length hall'.connections → (connection_at hall' n).closed ≡ false → HasSeat hall' seats₁ n
  covered' n below opened = by_test (eqb_tells n (length hall.connections))
    where
      by_test : (((n == length hall.connections) ≡ true) × (n ≡ length hall.connections)) ⊎ (((n == length hall.connections) ≡ false) × (n ≢ length hall.connections)) → HasSeat hall' seats₁ n
      by_test (inl (_, same)) = record {
        seat = new_seat id;
        is_there = ap (λ (c : ConnectionState). seat_at seats₁ c.place) (ap (connection_at hall') same ∙ line_new) ∙ seat_new;
        same_number = next ∙ sym same;
      }
      by_test (inr (_, other)) =
          let inside : n < length hall.connections = let e = size in omega (arith, e, below, other) in
          let line = line_old n inside in
          let h = matches.covered n inside (ap (λ (c : ConnectionState). c.closed) (sym line) ∙ opened) in
          let away : (connection_at hall n).place ≢ place = λ same. none_some h.seat (sym free ∙ ap (seat_at seats) (sym same) ∙ h.is_there) in
          record {
            seat = h.seat;
            is_there = ap (λ (c : ConnectionState). seat_at seats₁ c.place) line ∙ seat_old (connection_at hall n).place away ∙ h.is_there;
            same_number = h.same_number;
          }

  pub matches_accepted : MatchesSeats hall' seats₁
  matches_accepted = record { seated = seated'; covered = covered' }

  module _ {E : Type 0} (all : List (Exchange E)) (served : HasServed hall seats all) where
    none_yet : exchanges_on (length hall.connections) all ≡ []
    none_yet = served.none_after (length hall.connections) (omega arith)

    new_served : IsServed begun (exchanges_on (length hall.connections) all)
    new_served = subst (IsServed begun) (sym none_yet) (record { rest = []; pending = []; begins = refl; wrote = refl; ends = λ closed. absurd (true≢false (sym closed)) })

    new_holds : HoldsRest (new_seat id) begun (exchanges_on (length hall.connections) all)
    new_holds = subst (HoldsRest (new_seat id) begun) (sym none_yet) (record { rest = []; begins = refl; held = λ _. refl; counted = λ _. refl; wrote = refl; closing = refl })

    each' : (n : ℕ) → n < length hall'.connections → IsServed (connection_at hall' n) (exchanges_on n all)
    each' n below = by_test (eqb_tells n (length hall.connections))
      where
        by_test : (((n == length hall.connections) ≡ true) × (n ≡ length hall.connections)) ⊎ (((n == length hall.connections) ≡ false) × (n ≢ length hall.connections)) → IsServed (connection_at hall' n) (exchanges_on n all)
        by_test (inl (_, same)) = subst (λ (m : ℕ). IsServed (connection_at hall' m) (exchanges_on m all)) (sym same)
            (subst (λ (l : ConnectionState). IsServed l (exchanges_on (length hall.connections) all)) (sym line_new) new_served)
        by_test (inr (_, other)) =
            let inside : n < length hall.connections = let e = size in omega (arith, e, below, other) in
            subst (λ (l : ConnectionState). IsServed l (exchanges_on n all)) (sym (line_old n inside)) (served.each n inside)

    holds' : (j : ℕ) (seat : SeatState) → seat_at seats₁ j ≡ Some seat → HoldsRest seat (connection_at hall' seat.id.number) (exchanges_on seat.id.number all)
    holds' j seat is = by_case (seat_by j seat is)
      where
        by_case : ((j ≡ place) × (new_seat id ≡ seat)) ⊎ ((j ≢ place) × (seat_at seats j ≡ Some seat)) → HoldsRest seat (connection_at hall' seat.id.number) (exchanges_on seat.id.number all)
        by_case (inl (_, same)) = subst (λ (s : SeatState). HoldsRest s (connection_at hall' s.id.number) (exchanges_on s.id.number all)) same
            (subst (λ (m : ℕ). HoldsRest (new_seat id) (connection_at hall' m) (exchanges_on m all)) (sym next)
            (subst (λ (l : ConnectionState). HoldsRest (new_seat id) l (exchanges_on (length hall.connections) all)) (sym line_new) new_holds))
        by_case (inr (_, before)) = subst (λ (l : ConnectionState). HoldsRest seat l (exchanges_on seat.id.number all)) (sym (line_old seat.id.number (matches.seated j seat before).is_open.begun)) (served.seated j seat before)

    one_place' : length seats₁ ≡ 1 → GoesInTurn hall' seats₁ all
    one_place' one =
        let count : length seats ≡ 1 = sym (length-set seats place (Some (new_seat id))) ∙ one in
        record { in_turn = (served.one_place count).in_turn; of_last = λ j seat is. by_case j seat count (seat_by j seat is) }
      where
        by_case : (j : ℕ) (seat : SeatState) → length seats ≡ 1 → ((j ≡ place) × (new_seat id ≡ seat)) ⊎ ((j ≢ place) × (seat_at seats j ≡ Some seat)) → seat.id.number + 1 ≡ length hall'.connections
        by_case j seat count (inl (_, same)) = ap (λ (s : SeatState). s.id.number + 1) (sym same) ∙ ap (λ (n : ℕ). n + 1) next ∙ sym size
        by_case j seat count (inr (other, before)) = absurd (let inside = is_within seats j seat before in let i : j ≡ place = omega (arith, inside, count, within) in other i)

    pub served_accepted : HasServed hall' seats₁ all
    served_accepted = record {
      each = each';
      none_after = λ n beyond. served.none_after n (let e = size in omega (arith, e, beyond));
      seated = holds';
      one_place = one_place';
    }

  -- of each connection, how often it was reported and what was tried
  same_tries : (n : ℕ) → ((connection_at hall' n).reports ≡ (connection_at hall n).reports) × (tries (connection_at hall' n) ≡ tries (connection_at hall n))
  same_tries n = by_test (leb_tells (length hall.connections) n)
    where
      past : (c : ConnectionState) → c ≡ connection_at hall' n → c.reports ≡ 0 → tries c ≡ 0 → length hall.connections ≤ n → ((connection_at hall' n).reports ≡ (connection_at hall n).reports) × (tries (connection_at hall' n) ≡ tries (connection_at hall n))
      past c is reports tried beyond =
          let b = get_or_past hall.connections n none beyond in
          (ap (λ (c : ConnectionState). c.reports) (sym is) ∙ reports ∙ ap (λ (c : ConnectionState). c.reports) (sym b), ap tries (sym is) ∙ tried ∙ ap tries (sym b))

      by_end : (((n == length hall.connections) ≡ true) × (n ≡ length hall.connections)) ⊎ (((n == length hall.connections) ≡ false) × (n ≢ length hall.connections)) → length hall.connections ≤ n
          → ((connection_at hall' n).reports ≡ (connection_at hall n).reports) × (tries (connection_at hall' n) ≡ tries (connection_at hall n))
      by_end (inl (_, same)) beyond = past begun (sym (ap (connection_at hall') same ∙ line_new)) refl refl beyond
      by_end (inr (_, other)) beyond = past none (sym (get_or_past hall'.connections n none (let e = size in omega (arith, e, beyond, other)))) refl refl beyond

      by_test : ((leb (length hall.connections) n ≡ true) × (length hall.connections ≤ n)) ⊎ ((leb (length hall.connections) n ≡ false) × (n < length hall.connections))
          → ((connection_at hall' n).reports ≡ (connection_at hall n).reports) × (tries (connection_at hall' n) ≡ tries (connection_at hall n))
      by_test (inl (_, beyond)) = by_end (eqb_tells n (length hall.connections)) beyond
      by_test (inr (_, inside)) = (ap (λ (c : ConnectionState). c.reports) (line_old n inside), ap tries (line_old n inside))

  pub accepted_in_order : AreTriesInOrder seats hall hall'
  accepted_in_order = λ j seat is.
      let e = line_old seat.id.number (matches.seated j seat is).is_open.begun in
      same_in_order seat (connection_at hall seat.id.number) (connection_at hall' seat.id.number) (ap (λ (c : ConnectionState). c.reads) e) (ap (λ (c : ConnectionState). c.writes) e) (ap (λ (c : ConnectionState). c.reports) e)

  pub serves_accepted : {M E W : Type 0} (Step : M → Request → List ℕ → M → Option E → Type 0) (Keeps : List E → W → W → Type 0) (machine : M) (w : W) → Keeps [] w w
      → (all : List (Exchange E)) → HasServed hall seats all → ServesOn Step Keeps all 0 (record { machine = machine; hall = hall; seats = seats; watchers = w }) (record { machine = machine; hall = hall'; seats = seats₁; watchers = w })
  serves_accepted Step Keeps machine w kept all served = record {
    more = [];
    steps = refl;
    served = subst (HasServed hall' seats₁) (sym (append-nil all)) (served_accepted all served);
    kept = kept;
    goes_on = λ n. let t = same_tries n in let r = t.0 in let s = t.1 in omega (arith, r, s);
  }
