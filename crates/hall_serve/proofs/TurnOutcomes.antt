-- What a turn leaves of all connections and their seats.
use Rattle.std.proofs.Common.{◌≡◌, ◌≢◌, ℕ, ◌+◌, ◌-◌, ◌<◌, ◌≤◌, ◌==◌, ◌⊎◌, inl, inr, Bool, true, false, List, [], length, Option, None, Some, Ok, refl, sym, ap, subst, ◌∙◌, arith}
use Rattle.std.specs.Prelude.{slice_set, slice_index_or}
use Rattle.std.proofs.lemmas.List.{append-nil, get_or-set_same, get_or-set_other}
use Rattle.std.proofs.lemmas.Bool.Decides.{eqb_tells}
use Rattle.halls.specs.CallResults.{IsOpen}
use Rattle.halls.specs.HallState.{ConnectionState, HallState, connection_at, new_connection}
use Rattle.halls.specs.StateChanges.{hall_after_wait, with_report}
use Rattle.halls.specs.declared.hall.ConnectionId.{ConnectionId}
use Rattle.halls.specs.declared.hall.Event.TheVariants.{Ready}
use Rattle.http_wire.specs.declared.request.Request.{Request}
use Rattle.hall_serve.specs.Exchanges.{Exchange, exchanges_on}
use Rattle.hall_serve.specs.Seats.{MatchesSeats, SeatState, seat_at}
use Rattle.hall_serve.specs.ServedHalls.{AreTriesInOrder, GoesOn, HasServed, ServesOn, TriesInOrder, WritesOrAnswers, tries}
use Rattle.hall_serve.specs.inner.SeatTurns.{ServesSeat, set_connection}
use Rattle.hall_serve.proofs.HallChanges.{AreStill, IsStill, matches_after, ready_still, same_still, served_after}
use Rattle.hall_serve.proofs.ListPlaces.{is_within, some_inj}
use Rattle.hall_serve.proofs.OneConnection.{other_line}
use Rattle.hall_serve.proofs.SeatCalls.{closes_of}
use Rattle.hall_serve.proofs.SeatOutcomes.{ChangesOne, turn_changes, turn_either, turn_matches, turn_serves}

-- the connection of this number was reported ready `ready` times, and nothing else was done
pub record IsReported (ready n : ℕ) (hall mid : HallState) : Type 0 where
  pub still : AreStill hall mid
  pub here : (connection_at mid n).reports ≡ (connection_at hall n).reports + ready
  pub others : (m : ℕ) → m ≢ n → (connection_at mid m).reports ≡ (connection_at hall m).reports

-- an open connection has a seat at its place
pub seat_of : (hall : HallState) (seats : List (Option SeatState)) (id : ConnectionId) → MatchesSeats hall seats → IsOpen hall id → (seat : SeatState) × (seat_at seats id.place ≡ Some seat) × (seat.id.number ≡ id.number)
seat_of hall seats id matches opened =
    let h = matches.covered id.number opened.begun opened.not_closed in
    (h.seat, ap (seat_at seats) (sym opened.at_place) ∙ h.is_there, h.same_number)

pub place_within : (hall : HallState) (seats : List (Option SeatState)) (id : ConnectionId) → MatchesSeats hall seats → IsOpen hall id → id.place < length seats
place_within hall seats id matches opened = let s = seat_of hall seats id matches opened in is_within seats id.place s.0 s.1

-- ---- what is tried

tries_still : (c c' : ConnectionState) → IsStill c c' → tries c' ≡ tries c
tries_still c c' s =
    let closed = ap closes_of s.closed in
    let reads = s.reads in
    let writes = s.writes in
    omega (arith, closed, reads, writes)

-- where nothing changed
pub same_in_order : (seat : SeatState) (c c' : ConnectionState) → c'.reads ≡ c.reads → c'.writes ≡ c.writes → c'.reports ≡ c.reports → TriesInOrder seat (c'.reports - c.reports) c c'
same_in_order seat c c' reads writes reports = record { writes = λ some. omega (arith, writes, reports); reads = inl reads }

in_order_before : (seat : SeatState) (ready : ℕ) (c mid c' : ConnectionState) → IsStill c mid → mid.reports ≡ c.reports + ready → c'.reports ≡ mid.reports → TriesInOrder seat ready mid c' → TriesInOrder seat (c'.reports - c.reports) c c'
in_order_before seat ready c mid c' still here same order = record {
  writes = λ some. let w = order.writes some in let s = still.writes in omega (arith, w, s, here, same);
  reads = either order.reads;
}
  where
    either : {A : Type 0} → (c'.reads ≡ mid.reads) ⊎ A → (c'.reads ≡ c.reads) ⊎ A
    either (inl e) = inl (e ∙ still.reads)
    either (inr a) = inr a

-- ---- no exchange

module _ {M E W : Type 0} (Step : M → Request → List ℕ → M → Option E → Type 0) (Keeps : List E → W → W → Type 0) where
  -- nothing was done on any connection, and none was reported
  pub serves_nothing : (hall hall' : HallState) (seats : List (Option SeatState)) (machine : M) (w : W) → hall'.connections ≡ hall.connections → Keeps [] w w
      → (all : List (Exchange E)) → HasServed hall seats all → ServesOn Step Keeps all 0 (record { machine = machine; hall = hall; seats = seats; watchers = w }) (record { machine = machine; hall = hall'; seats = seats; watchers = w })
  serves_nothing hall hall' seats machine w same none all served = record {
    more = [];
    steps = refl;
    served = subst (HasServed hall' seats) (sym (append-nil all)) (served_after hall hall' (same_still hall hall' same) seats all served);
    kept = none;
    goes_on = λ n. let e = ap (λ (l : List ConnectionState). slice_index_or l n (new_connection 0 None)) same in
        let r = ap (λ (c : ConnectionState). c.reports) e in let t = ap tries e in omega (arith, r, t);
  }

pub none_in_order : (hall hall' : HallState) (seats : List (Option SeatState)) → hall'.connections ≡ hall.connections → AreTriesInOrder seats hall hall'
none_in_order hall hall' seats same = λ k seat is.
    let e = ap (λ (l : List ConnectionState). slice_index_or l seat.id.number (new_connection 0 None)) same in
    same_in_order seat (connection_at hall seat.id.number) (connection_at hall' seat.id.number) (ap (λ (c : ConnectionState). c.reads) e) (ap (λ (c : ConnectionState). c.writes) e) (ap (λ (c : ConnectionState). c.reports) e)

-- ---- one connection

module _ {M E W : Type 0} (Step : M → Request → List ℕ → M → Option E → Type 0) (Keeps : List E → W → W → Type 0)
    (ready failures : ℕ) (once : ready ≤ 1) (hall mid hall' : HallState) (seats : List (Option SeatState)) (matches : MatchesSeats hall seats) (k : ℕ) (old : SeatState) (at : seat_at seats k ≡ Some old)
    (reported : IsReported ready old.id.number hall mid) (new : Option SeatState) (machine machine' : M) (w w' : W)
    (serves : ServesSeat Step Keeps ready failures (record { machine = machine; seat = old; watchers = w }) new machine' w' mid hall') where
  abbrev n : ℕ
  n = old.id.number

  matches' : MatchesSeats mid seats
  matches' = matches_after hall mid reported.still seats matches

  pub changes : ChangesOne ready old mid hall'
  changes = turn_changes Step Keeps mid seats matches' k old at ready failures machine machine' w w' new hall' serves

  here' : connection_at hall' n ≡ changes.connection
  here' = ap (λ (h : HallState). connection_at h n) changes.only_that ∙ changes.here

  others' : (m : ℕ) → m ≢ n → connection_at hall' m ≡ connection_at mid m
  others' m other = ap (λ (h : HallState). connection_at h m) changes.only_that ∙ changes.others m other

  reports' : (connection_at hall' n).reports ≡ (connection_at mid n).reports
  reports' = ap (λ (c : ConnectionState). c.reports) here' ∙ changes.same_reports

  pub one_matches : MatchesSeats hall' (slice_set seats k new)
  one_matches = turn_matches Step Keeps mid seats matches' k old at ready failures machine machine' w w' new hall' serves

  pub one_serves : (all : List (Exchange E)) → HasServed hall seats all → ServesOn Step Keeps all failures (record { machine = machine; hall = hall; seats = seats; watchers = w }) (record { machine = machine'; hall = hall'; seats = slice_set seats k new; watchers = w' })
  one_serves all served =
      let m = turn_serves Step Keeps mid seats matches' k old at ready failures once machine machine' w w' new hall' serves all (served_after hall mid reported.still seats all served) in
      record { more = m.more; steps = m.steps; served = m.served; kept = m.kept; goes_on = λ i. by_test m.more m.tried i (eqb_tells i n) }
    where
      by_test : (more : List (Exchange E)) → ready + tries (connection_at mid n) ≤ tries (connection_at hall' n) + (length (exchanges_on n more) + failures)
          → (i : ℕ) → (((i == n) ≡ true) × (i ≡ n)) ⊎ (((i == n) ≡ false) × (i ≢ n)) → GoesOn (connection_at hall i) (connection_at hall' i) (length (exchanges_on i more)) failures
      by_test more tried i (inl (_, same)) = subst (λ (j : ℕ). GoesOn (connection_at hall j) (connection_at hall' j) (length (exchanges_on j more)) failures) (sym same)
          (let r = reports' in let h = reported.here in let t = tries_still (connection_at hall n) (connection_at mid n) (reported.still.each n) in omega (arith, tried, r, h, t))
      by_test more tried i (inr (_, other)) =
          let c = others' i other in
          let r = ap (λ (c : ConnectionState). c.reports) c ∙ reported.others i other in
          let t = ap tries c ∙ tries_still (connection_at hall i) (connection_at mid i) (reported.still.each i) in
          omega (arith, r, t)

  pub one_in_order : AreTriesInOrder seats hall hall'
  one_in_order = λ j seat is. by_test j seat is (eqb_tells j k)
    where
      here₀ : TriesInOrder old ready (connection_at mid n) (connection_at hall' n)
      here₀ = subst (TriesInOrder old ready (connection_at mid n)) (sym here') changes.in_order

      here₁ : TriesInOrder old ((connection_at hall' n).reports - (connection_at hall n).reports) (connection_at hall n) (connection_at hall' n)
      here₁ = in_order_before old ready (connection_at hall n) (connection_at mid n) (connection_at hall' n) (reported.still.each n) reported.here reports' here₀

      by_test : (j : ℕ) (seat : SeatState) → seat_at seats j ≡ Some seat → (((j == k) ≡ true) × (j ≡ k)) ⊎ (((j == k) ≡ false) × (j ≢ k))
          → TriesInOrder seat ((connection_at hall' seat.id.number).reports - (connection_at hall seat.id.number).reports) (connection_at hall seat.id.number) (connection_at hall' seat.id.number)
      by_test j seat is (inl (_, same)) = subst (λ (s : SeatState). TriesInOrder s ((connection_at hall' s.id.number).reports - (connection_at hall s.id.number).reports) (connection_at hall s.id.number) (connection_at hall' s.id.number))
          (some_inj old seat (sym at ∙ ap (seat_at seats) (sym same) ∙ is)) here₁
      by_test j seat is (inr (_, other)) =
          let away = other_line hall seats matches k old at new (connection_at hall n) j seat other is in
          let c = others' seat.id.number away in
          let s = reported.still.each seat.id.number in
          same_in_order seat (connection_at hall seat.id.number) (connection_at hall' seat.id.number) (ap (λ (c : ConnectionState). c.reads) c ∙ s.reads) (ap (λ (c : ConnectionState). c.writes) c ∙ s.writes)
          (ap (λ (c : ConnectionState). c.reports) c ∙ reported.others seat.id.number away)

  pub one_told : WritesOrAnswers Keeps (record { machine = machine; hall = hall; seats = seats; watchers = w }) (record { machine = machine'; hall = hall'; seats = slice_set seats k new; watchers = w' })
  one_told = by_case (turn_either Step Keeps mid seats matches' k old at ready failures machine machine' w w' new hall' serves)
    where
      by_case : (hall' ≡ mid) ⊎ ((machine' ≡ machine) × Keeps [] w w')
          → WritesOrAnswers Keeps (record { machine = machine; hall = hall; seats = seats; watchers = w }) (record { machine = machine'; hall = hall'; seats = slice_set seats k new; watchers = w' })
      by_case (inl same) = inl (λ m. ap (λ (h : HallState). (connection_at h m).taken) same ∙ (reported.still.each m).taken)
      by_case (inr rest) = inr rest

  pub one_only : hall' ≡ set_connection mid n changes.connection
  one_only = changes.only_that

-- ---- the calls

pub ready_reported : (hall : HallState) (more : Bool) (id : ConnectionId) → IsOpen hall id → IsReported 1 id.number hall (hall_after_wait {E = ℕ} more (Ok (Ready id)) hall)
ready_reported hall more id opened = record {
  still = ready_still hall more id opened;
  here = ap (λ (c : ConnectionState). c.reports) (get_or-set_same hall.connections id.number (with_report (connection_at hall id.number)) (new_connection 0 None) opened.begun);
  others = λ m other. ap (λ (c : ConnectionState). c.reports) (get_or-set_other hall.connections id.number m (with_report (connection_at hall id.number)) (new_connection 0 None) other);
}

pub none_reported : (n : ℕ) (hall mid : HallState) → mid.connections ≡ hall.connections → IsReported 0 n hall mid
none_reported n hall mid same = record {
  still = same_still hall mid same;
  here = let e = at n in omega (arith, e);
  others = λ m other. at m;
}
  where
    at : (m : ℕ) → (connection_at mid m).reports ≡ (connection_at hall m).reports
    at m = ap (λ (l : List ConnectionState). (slice_index_or l m (new_connection 0 None)).reports) same
