-- What is true between two turns is so after a change of one connection and its seat.
use Rattle.std.proofs.Common.{◌≡◌, ◌≢◌, ℕ, ◌+◌, ◌<◌, ◌≤◌, ◌==◌, ◌⊎◌, inl, inr, true, false, true≢false, List, [], ◌∷◌, ◌++◌, length, Option, None, Some, refl, sym, ap, subst, ◌∙◌, arith}
use Rattle.std.specs.Prelude.{slice_set}
use Rattle.std.proofs.lemmas.List.{append-nil, get_or-set_same, get_or-set_other, length-set}
use Rattle.std.proofs.lemmas.Bool.Decides.{eqb_tells}
use Rattle.halls.specs.HallState.{ConnectionState, HallState, connection_at, new_connection}
use Rattle.http_wire.specs.declared.limits.TheConstants.{MAX_REQUESTS}
use Rattle.hall_serve.specs.Exchanges.{Exchange, exchanges_on}
use Rattle.hall_serve.specs.Seats.{HasSeat, IsSeatAt, MatchesSeats, SeatState, seat_at}
use Rattle.hall_serve.specs.ServedConnections.{IsServed}
use Rattle.hall_serve.specs.ServedHalls.{GoesInTurn, HasServed, HoldsRest}
use Rattle.hall_serve.specs.ServedInTurn.{AreInTurn}
use Rattle.hall_serve.specs.inner.SeatTurns.{set_connection}
use Rattle.hall_serve.proofs.ListPlaces.{is_within, some_inj}
use Rattle.hall_serve.proofs.ExchangeLists.{on-append, on-one, on-other}

-- a seat whose connection didn't change
pub seat_kept : (hall hall' : HallState) (k : ℕ) (seat : SeatState) → length hall'.connections ≡ length hall.connections → connection_at hall' seat.id.number ≡ connection_at hall seat.id.number → IsSeatAt hall k seat → IsSeatAt hall' k seat
seat_kept hall hall' k seat size same is = record {
  at_place = is.at_place;
  is_open = record {
    begun = let b = is.is_open.begun in omega (arith, size, b);
    at_place = ap (λ (c : ConnectionState). c.place) same ∙ is.is_open.at_place;
    not_closed = ap (λ (c : ConnectionState). c.closed) same ∙ is.is_open.not_closed;
  };
  unbroken = ap (λ (c : ConnectionState). c.broken) same ∙ is.unbroken;
  same_end = is.same_end ∙ ap (λ (c : ConnectionState). c.ended) (sym same);
  unspent = is.unspent;
  few_requests = is.few_requests;
}

-- what is at the place afterwards: the same connection's seat, or none where it was closed
abbrev pub StaysSeated : SeatState → Option SeatState → ConnectionState → ConnectionState → Type 0
StaysSeated old None connection connection' = connection'.closed ≡ true
StaysSeated old (Some seat) connection connection' =
    (seat.id ≡ old.id) × (connection'.place ≡ connection.place) × (connection'.closed ≡ false) × (seat.ended ≡ connection'.ended)
    × (seat.closing ≡ false → seat.feed.reader.spent ≡ false) × (seat.closing ≡ false → seat.feed.reader.requests < MAX_REQUESTS)
    × (connection'.broken ≡ false)

stays_same : (old seat : SeatState) (new : Option SeatState) (connection connection' : ConnectionState) → new ≡ Some seat → StaysSeated old new connection connection' → StaysSeated old (Some seat) connection connection'
stays_same old seat new connection connection' is s = subst (λ (o : Option SeatState). StaysSeated old o connection connection') is s

stays_open : (old : SeatState) (new : Option SeatState) (connection connection' : ConnectionState) → StaysSeated old new connection connection' → connection'.closed ≡ false → (seat : SeatState) × (new ≡ Some seat) × (seat.id ≡ old.id) × (connection'.place ≡ connection.place)
stays_open old None connection connection' s still = absurd (true≢false (sym s ∙ still))
stays_open old (Some seat) connection connection' s still = (seat, refl, s.0, s.1)

module _ (hall : HallState) (seats : List (Option SeatState)) (matches : MatchesSeats hall seats) (k : ℕ) (old : SeatState) (at : seat_at seats k ≡ Some old) (new : Option SeatState) (line' : ConnectionState) where
  abbrev pub n₀ : ℕ
  n₀ = old.id.number

  abbrev pub hall₁ : HallState
  hall₁ = set_connection hall n₀ line'

  abbrev pub seats₁ : List (Option SeatState)
  seats₁ = slice_set seats k new

  seat₀ : IsSeatAt hall k old
  seat₀ = matches.seated k old at

  pub begun₀ : n₀ < length hall.connections
  begun₀ = seat₀.is_open.begun

  pub size₁ : length hall₁.connections ≡ length hall.connections
  size₁ = length-set hall.connections n₀ line'

  place₀ : (connection_at hall n₀).place ≡ k
  place₀ = seat₀.is_open.at_place ∙ seat₀.at_place

  pub line_same : connection_at hall₁ n₀ ≡ line'
  line_same = get_or-set_same hall.connections n₀ line' (new_connection 0 None) begun₀

  pub line_other : (n : ℕ) → n ≢ n₀ → connection_at hall₁ n ≡ connection_at hall n
  line_other n other = get_or-set_other hall.connections n₀ n line' (new_connection 0 None) other

  pub seat_same : seat_at seats₁ k ≡ new
  seat_same = get_or-set_same seats k new None (is_within seats k old at)

  pub seat_other : (j : ℕ) → j ≢ k → seat_at seats₁ j ≡ seat_at seats j
  seat_other j other = get_or-set_other seats k j new None other

  -- another place has another connection's seat
  pub other_line : (j : ℕ) (seat : SeatState) → j ≢ k → seat_at seats j ≡ Some seat → seat.id.number ≢ n₀
  other_line j seat other is same =
      let s = matches.seated j seat is in
      other (sym (s.is_open.at_place ∙ s.at_place) ∙ ap (λ (n : ℕ). (connection_at hall n).place) same ∙ place₀)

  module _ (stays : StaysSeated old new (connection_at hall n₀) line') where
    seated' : (j : ℕ) (seat : SeatState) → seat_at seats₁ j ≡ Some seat → IsSeatAt hall₁ j seat
    seated' j seat is = by_test (eqb_tells j k)
      where
        by_test : (((j == k) ≡ true) × (j ≡ k)) ⊎ (((j == k) ≡ false) × (j ≢ k)) → IsSeatAt hall₁ j seat
        by_test (inl (_, same)) =
            let now : new ≡ Some seat = sym seat_same ∙ ap (seat_at seats₁) (sym same) ∙ is in
            let s = stays_same old seat new (connection_at hall n₀) line' now stays in
            let number : seat.id.number ≡ n₀ = ap (λ id. id.number) s.0 in
            let line : connection_at hall₁ seat.id.number ≡ line' = ap (connection_at hall₁) number ∙ line_same in
            record {
              at_place = ap (λ id. id.place) s.0 ∙ seat₀.at_place ∙ sym same;
              is_open = record {
                begun = let b = begun₀ in let e = size₁ in omega (arith, number, b, e);
                at_place = ap (λ (c : ConnectionState). c.place) line ∙ s.1 ∙ seat₀.is_open.at_place ∙ ap (λ id. id.place) (sym s.0);
                not_closed = ap (λ (c : ConnectionState). c.closed) line ∙ s.2;
              };
              unbroken = ap (λ (c : ConnectionState). c.broken) line ∙ s.6;
              same_end = s.3 ∙ ap (λ (c : ConnectionState). c.ended) (sym line);
              unspent = s.4;
              few_requests = s.5;
            }
        by_test (inr (_, other)) =
            let before : seat_at seats j ≡ Some seat = sym (seat_other j other) ∙ is in
            seat_kept hall hall₁ j seat size₁ (line_other seat.id.number (other_line j seat other before)) (matches.seated j seat before)

    covered' : (n : ℕ) → n < length hall₁.connections → (connection_at hall₁ n).closed ≡ false → HasSeat hall₁ seats₁ n
    covered' n below open_still = by_test (eqb_tells n n₀)
      where
        by_test : (((n == n₀) ≡ true) × (n ≡ n₀)) ⊎ (((n == n₀) ≡ false) × (n ≢ n₀)) → HasSeat hall₁ seats₁ n
        by_test (inl (_, same)) =
            let line : connection_at hall₁ n ≡ line' = ap (connection_at hall₁) same ∙ line_same in
            let o = stays_open old new (connection_at hall n₀) line' stays (ap (λ (c : ConnectionState). c.closed) (sym line) ∙ open_still) in
            record {
              seat = o.0;
              is_there = ap (seat_at seats₁) (ap (λ (c : ConnectionState). c.place) line ∙ o.3 ∙ place₀) ∙ seat_same ∙ o.1;
              same_number = ap (λ id. id.number) o.2 ∙ sym same;
            }
        by_test (inr (_, other)) =
            let line : connection_at hall₁ n ≡ connection_at hall n = line_other n other in
            let h = matches.covered n (let e = size₁ in omega (arith, e, below)) (ap (λ (c : ConnectionState). c.closed) (sym line) ∙ open_still) in
            let away : (connection_at hall n).place ≢ k = λ same. other (sym h.same_number ∙ ap (λ (s : SeatState). s.id.number) (some_inj h.seat old (sym h.is_there ∙ ap (seat_at seats) same ∙ at))) in
            record {
              seat = h.seat;
              is_there = ap (λ (c : ConnectionState). seat_at seats₁ c.place) line ∙ seat_other (connection_at hall n).place away ∙ h.is_there;
              same_number = h.same_number;
            }

    pub matches_still : MatchesSeats hall₁ seats₁
    matches_still = record { seated = seated'; covered = covered' }

-- the exchanges are all of that connection
pub record AreOn {E : Type 0} (number : ℕ) (made : List (Exchange E)) : Type 0 where
  pub same : exchanges_on number made ≡ made
  pub other : (n : ℕ) → n ≢ number → exchanges_on n made ≡ []

module _ {E : Type 0} where
  pub none_made : (number : ℕ) → AreOn {E = E} number []
  none_made number = record { same = refl; other = λ n other. refl }

  pub one_made : (number : ℕ) (exchange : Exchange E) → exchange.connection ≡ number → AreOn number (exchange ∷ [])
  one_made number exchange is = record { same = on-one number exchange is; other = λ n other. on-other n exchange (λ e. other (sym e ∙ is)) }

  -- the same with the exchanges of the connection
  abbrev pub Outcome : SeatState → Option SeatState → ConnectionState → List (Exchange E) → Type 0
  Outcome old None line mine = IsServed line mine
  Outcome old (Some seat) line mine = (seat.id ≡ old.id) × (line.closed ≡ false) × HoldsRest seat line mine

  served_so_far : (seat : SeatState) (line : ConnectionState) (mine : List (Exchange E)) → line.closed ≡ false → HoldsRest seat line mine → IsServed line mine
  served_so_far seat line mine still is = record {
    rest = is.rest;
    pending = seat.pending;
    begins = is.begins;
    wrote = is.wrote;
    ends = λ closed. absurd (true≢false (sym closed ∙ still));
  }

  outcome_served : (old : SeatState) (new : Option SeatState) (line : ConnectionState) (mine : List (Exchange E)) → Outcome old new line mine → IsServed line mine
  outcome_served old None line mine o = o
  outcome_served old (Some seat) line mine o = served_so_far seat line mine o.1 o.2

  module _ (hall : HallState) (seats : List (Option SeatState)) (matches : MatchesSeats hall seats) (all : List (Exchange E)) (served : HasServed hall seats all)
      (k : ℕ) (old : SeatState) (at : seat_at seats k ≡ Some old) (new : Option SeatState) (line' : ConnectionState) (made : List (Exchange E)) (are : AreOn old.id.number made)
      (in_turn : old.id.number + 1 ≡ length hall.connections → AreInTurn 0 all → AreInTurn 0 (all ++ made))
      (outcome : Outcome old new line' (exchanges_on old.id.number all ++ made)) where
    abbrev n₂ : ℕ
    n₂ = old.id.number

    abbrev hall₂ : HallState
    hall₂ = set_connection hall n₂ line'

    abbrev seats₂ : List (Option SeatState)
    seats₂ = slice_set seats k new

    abbrev mine₂ : List (Exchange E)
    mine₂ = exchanges_on n₂ all ++ made

    size₂ : length hall₂.connections ≡ length hall.connections
    size₂ = size₁ hall seats matches k old at new line'

    same₂ : connection_at hall₂ n₂ ≡ line'
    same₂ = line_same hall seats matches k old at new line'

    other₂ : (n : ℕ) → n ≢ n₂ → connection_at hall₂ n ≡ connection_at hall n
    other₂ n other = line_other hall seats matches k old at new line' n other

    mine_same : exchanges_on n₂ (all ++ made) ≡ mine₂
    mine_same = on-append n₂ all made ∙ ap (λ (l : List (Exchange E)). exchanges_on n₂ all ++ l) are.same

    mine_other : (n : ℕ) → n ≢ n₂ → exchanges_on n (all ++ made) ≡ exchanges_on n all
    mine_other n other = on-append n all made ∙ ap (λ (l : List (Exchange E)). exchanges_on n all ++ l) (are.other n other) ∙ append-nil (exchanges_on n all)

    each' : (n : ℕ) → n < length hall₂.connections → IsServed (connection_at hall₂ n) (exchanges_on n (all ++ made))
    each' n below = by_test (eqb_tells n n₂)
      where
        by_test : (((n == n₂) ≡ true) × (n ≡ n₂)) ⊎ (((n == n₂) ≡ false) × (n ≢ n₂)) → IsServed (connection_at hall₂ n) (exchanges_on n (all ++ made))
        by_test (inl (_, same)) =
            subst (λ (m : ℕ). IsServed (connection_at hall₂ m) (exchanges_on m (all ++ made))) (sym same)
            (subst (λ (l : ConnectionState). IsServed l (exchanges_on n₂ (all ++ made))) (sym same₂)
            (subst (λ (m : List (Exchange E)). IsServed line' m) (sym mine_same) (outcome_served old new line' mine₂ outcome)))
        by_test (inr (_, other)) =
            subst (λ (l : ConnectionState). IsServed l (exchanges_on n (all ++ made))) (sym (other₂ n other))
            (subst (λ (m : List (Exchange E)). IsServed (connection_at hall n) m) (sym (mine_other n other)) (served.each n (let e = size₂ in omega (arith, e, below))))

    none_after' : (n : ℕ) → length hall₂.connections ≤ n → exchanges_on n (all ++ made) ≡ []
    none_after' n beyond =
        let past : length hall.connections ≤ n = let e = size₂ in omega (arith, e, beyond) in
        mine_other n (λ same. let b = begun₀ hall seats matches k old at new line' in let no : ⊥ = omega (arith, same, past, b) in no) ∙ served.none_after n past

    -- the seat at a place: the one whose connection changed, or one from before
    seat_by : (j : ℕ) (seat : SeatState) → seat_at seats₂ j ≡ Some seat → ((j ≡ k) × (new ≡ Some seat)) ⊎ ((j ≢ k) × (seat_at seats j ≡ Some seat))
    seat_by j seat is = by_test (eqb_tells j k)
      where
        by_test : (((j == k) ≡ true) × (j ≡ k)) ⊎ (((j == k) ≡ false) × (j ≢ k)) → ((j ≡ k) × (new ≡ Some seat)) ⊎ ((j ≢ k) × (seat_at seats j ≡ Some seat))
        by_test (inl (_, same)) = inl (same, sym (seat_same hall seats matches k old at new line') ∙ ap (seat_at seats₂) (sym same) ∙ is)
        by_test (inr (_, other)) = inr (other, sym (seat_other hall seats matches k old at new line' j other) ∙ is)

    outcome_at : (seat : SeatState) → new ≡ Some seat → (seat.id ≡ old.id) × (line'.closed ≡ false) × HoldsRest seat line' mine₂
    outcome_at seat is = subst (λ (s : Option SeatState). Outcome old s line' mine₂) is outcome

    holds' : (j : ℕ) (seat : SeatState) → seat_at seats₂ j ≡ Some seat → HoldsRest seat (connection_at hall₂ seat.id.number) (exchanges_on seat.id.number (all ++ made))
    holds' j seat is = by_case (seat_by j seat is)
      where
        by_case : ((j ≡ k) × (new ≡ Some seat)) ⊎ ((j ≢ k) × (seat_at seats j ≡ Some seat)) → HoldsRest seat (connection_at hall₂ seat.id.number) (exchanges_on seat.id.number (all ++ made))
        by_case (inl (_, now)) =
            let o = outcome_at seat now in
            let number : seat.id.number ≡ n₂ = ap (λ id. id.number) o.0 in
            subst (λ (m : ℕ). HoldsRest seat (connection_at hall₂ m) (exchanges_on m (all ++ made))) (sym number)
            (subst (λ (l : ConnectionState). HoldsRest seat l (exchanges_on n₂ (all ++ made))) (sym same₂)
            (subst (λ (m : List (Exchange E)). HoldsRest seat line' m) (sym mine_same) o.2))
        by_case (inr (other, before)) =
            let apart = other_line hall seats matches k old at new line' j seat other before in
            subst (λ (l : ConnectionState). HoldsRest seat l (exchanges_on seat.id.number (all ++ made))) (sym (other₂ seat.id.number apart))
            (subst (λ (m : List (Exchange E)). HoldsRest seat (connection_at hall seat.id.number) m) (sym (mine_other seat.id.number apart)) (served.seated j seat before))

    one_place' : length seats₂ ≡ 1 → GoesInTurn hall₂ seats₂ (all ++ made)
    one_place' one =
        let before = served.one_place (sym (length-set seats k new) ∙ one) in
        let latest : n₂ + 1 ≡ length hall.connections = before.of_last k old at in
        record {
          in_turn = in_turn latest before.in_turn;
          of_last = λ j seat is. by_case j seat (seat_by j seat is) latest before.of_last;
        }
      where
        by_case : (j : ℕ) (seat : SeatState) → ((j ≡ k) × (new ≡ Some seat)) ⊎ ((j ≢ k) × (seat_at seats j ≡ Some seat)) → n₂ + 1 ≡ length hall.connections
            → ((i : ℕ) (s : SeatState) → seat_at seats i ≡ Some s → s.id.number + 1 ≡ length hall.connections) → seat.id.number + 1 ≡ length hall₂.connections
        by_case j seat (inl (_, now)) latest before = let number : seat.id.number ≡ n₂ = ap (λ id. id.number) (outcome_at seat now).0 in let e = size₂ in omega (arith, number, latest, e)
        by_case j seat (inr (_, is)) latest before = before j seat is ∙ sym size₂

    pub served_still : HasServed hall₂ seats₂ (all ++ made)
    served_still = record { each = each'; none_after = none_after'; seated = holds'; one_place = one_place' }
