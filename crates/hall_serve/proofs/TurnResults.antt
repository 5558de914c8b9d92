-- What a turn leaves, by what it was: the clauses of `make_turn`.
use Rattle.std.proofs.Common.{◌≡◌, ℕ, suc, Bool, if◌then◌else◌, ◌+◌, ◌*◌, ◌<◌, ◌≤◌, inr, List, [], ◌∷◌, ◌++◌, Option, None, Some, Ok, Err, length, true≢false, refl, sym, ap, subst, ◌∙◌, arith}
use Rattle.std.proofs.lemmas.List.{length-set}
use Rattle.std.specs.Prelude.{slice_set, option_map, is_none, is_some, IfSome, true, false, ◌&&◌}
use Rattle.std.specs.List.{list_any, position}
use Rattle.halls.specs.CallResults.{IsOpen, IsOver}
use Rattle.halls.specs.HallState.{HallState, connection_at, new_connection}
use Rattle.halls.specs.StateChanges.{first_text, hall_after_accept, hall_after_close, hall_after_wait, with_break, with_close, with_wait}
use Rattle.halls.specs.declared.hall.ConnectionId.{ConnectionId}
use Rattle.halls.specs.declared.hall.Event.TheVariants.{Knock, Ready, Late, Quiet, Over}
use Rattle.http_wire.specs.declared.request.Request.{Request}
use Rattle.hall_serve.specs.declared.turns.Turn.{Turn}
use Rattle.hall_serve.specs.declared.turns.Turn.TheVariants as turn
use Rattle.hall_serve.specs.Exchanges.{Exchange}
use Rattle.hall_serve.specs.Seats.{MatchesSeats, SeatState, requests_left, seat_at}
use Rattle.hall_serve.specs.ServedHalls.{AreTriesInOrder, CountsTurn, HallServer, HasServed, ServesOn, WritesOrAnswers, begun_in, faults_in, memory_failures_in, places_offered}
use Rattle.hall_serve.specs.inner.NewSeats.{new_seat}
use Rattle.hall_serve.specs.inner.SeatTurns.{SeatsNextIn, ServesAt, ServesReady, ServesSeat, passes, set_connection}
use Rattle.hall_serve.proofs.AcceptedConnections.{accepted_in_order, matches_accepted, serves_accepted}
use Rattle.hall_serve.proofs.HallChanges.{matches_after, open_still, ready_still, same_still}
use Rattle.hall_serve.proofs.ListPlaces.{first_any, some_inj}
use Rattle.hall_serve.proofs.RequestsLeft.{takes_accepted, takes_closed}
use Rattle.hall_serve.proofs.SeatCalls.{close_set, closes_late, open_set}
use Rattle.hall_serve.proofs.TurnCounts.{counts_began, counts_failure, counts_late, counts_none, counts_over, counts_quiet, counts_ready, counts_refused}
use Rattle.hall_serve.proofs.TurnOutcomes.{IsReported, none_in_order, none_reported, one_in_order, one_matches, one_only, one_serves, one_told, ready_reported, seat_of, serves_nothing}

module _ {M E W : Type 0} (Step : M → Request → List ℕ → M → Option E → Type 0) (Keeps : List E → W → W → Type 0) (more : Bool) where
  abbrev offered : ℕ
  offered = if more then 1 else 0

  pub record TurnDone (t : Turn) (old new : HallServer M W) : Type 0 where
    pub seats_match : MatchesSeats new.hall new.seats
    pub serves_on : (all : List (Exchange E)) → HasServed old.hall old.seats all → ServesOn Step Keeps all (memory_failures_in t) old new
    pub notified_first : WritesOrAnswers Keeps old new
    pub in_order : AreTriesInOrder old.seats old.hall new.hall
    pub counts : CountsTurn t offered old.hall new.hall

  module _ (hall : HallState) (seats : List (Option SeatState)) (matches : MatchesSeats hall seats) (machine : M) (w : W) (none : Keeps [] w w) where
    abbrev before : HallServer M W
    before = record { machine = machine; hall = hall; seats = seats; watchers = w }

    abbrev unserved : HallState → HallServer M W
    unserved hall' = record { machine = machine; hall = hall'; seats = seats; watchers = w }

    -- nothing was done on any connection
    nothing_done : (t : Turn) → memory_failures_in t ≡ 0 → (hall' : HallState) → hall'.connections ≡ hall.connections → CountsTurn t offered hall hall' → TurnDone t before (unserved hall')
    nothing_done t whole hall' same counts = record {
      seats_match = matches_after hall hall' (same_still hall hall' same) seats matches;
      serves_on = λ all served. subst (λ (f : ℕ). ServesOn Step Keeps all f before (unserved hall')) (sym whole) (serves_nothing Step Keeps hall hall' seats machine w same none all served);
      notified_first = inr (refl, none);
      in_order = none_in_order hall hall' seats same;
      counts = counts;
    }

    pub quiet_done : (hall' : HallState) → hall' ≡ hall_after_wait {E = ℕ} more (Ok Quiet) hall → TurnDone turn.Went before (unserved hall')
    quiet_done hall' is = nothing_done turn.Went refl hall' (ap (λ (h : HallState). h.connections) is) (counts_quiet hall more hall' is)

    pub over_done : (hall' : HallState) → hall' ≡ hall_after_wait {E = ℕ} more (Ok Over) hall → IsOver hall → TurnDone turn.Over before (unserved hall')
    over_done hall' is none = nothing_done turn.Over refl hall' (ap (λ (h : HallState). h.connections) is) (counts_over hall more hall' is none)

    pub failure_done : (hall' : HallState) → hall' ≡ hall_after_wait {E = ℕ} more (Err 0) hall → TurnDone turn.HallFailed before (unserved hall')
    failure_done hall' is = nothing_done turn.HallFailed refl hall' (ap (λ (h : HallState). h.connections) is) (counts_failure hall more hall' is)

    -- one turn of a connection
    at_place : (id : ConnectionId) → IsOpen hall id → (failures : ℕ) (t : Turn) → memory_failures_in t ≡ failures → begun_in t ≡ 0 → faults_in t ≡ 0 → (t ≡ turn.Over → ⊥)
        → (mid hall' : HallState) → mid ≡ hall_after_wait {E = ℕ} more (Ok (Ready id)) hall → (seats' : List (Option SeatState)) (machine' : M) (w' : W)
        → ServesAt Step Keeps 1 failures id.place (record { machine = machine; hall = mid; seats = seats; watchers = w }) (record { machine = machine'; hall = hall'; seats = seats'; watchers = w' })
        → TurnDone t before (record { machine = machine'; hall = hall'; seats = seats'; watchers = w' })
    at_place id opened failures t whole none_begun no_fault goes mid hall' is seats' machine' w' s =
        let at : seat_at seats id.place ≡ Some s.serves.seat = s.serves.is_there in
        let there = seat_of hall seats id matches opened in
        let number : s.serves.seat.id.number ≡ id.number = ap (λ (o : SeatState). o.id.number) (some_inj s.serves.seat there.0 (sym at ∙ there.1)) ∙ there.2 in
        let reported : IsReported 1 s.serves.seat.id.number hall mid =
        subst (λ (h : HallState). IsReported 1 s.serves.seat.id.number hall h) (sym is) (subst (λ (i : ℕ). IsReported 1 i hall (hall_after_wait {E = ℕ} more (Ok (Ready id)) hall)) (sym number) (ready_reported hall more id opened)) in
        let once : 1 ≤ 1 = omega arith in
        let done : TurnDone t before (record { machine = machine'; hall = hall'; seats = slice_set seats id.place s.left; watchers = w' }) = record {
          seats_match = one_matches Step Keeps 1 failures once hall mid hall' seats matches id.place s.serves.seat at reported s.left machine machine' w w' s.serves.serves;
          serves_on = λ all served. subst (λ (f : ℕ). ServesOn Step Keeps all f before (record { machine = machine'; hall = hall'; seats = slice_set seats id.place s.left; watchers = w' })) (sym whole)
              (one_serves Step Keeps 1 failures once hall mid hall' seats matches id.place s.serves.seat at reported s.left machine machine' w w' s.serves.serves all served);
          notified_first = one_told Step Keeps 1 failures once hall mid hall' seats matches id.place s.serves.seat at reported s.left machine machine' w w' s.serves.serves;
          in_order = one_in_order Step Keeps 1 failures once hall mid hall' seats matches id.place s.serves.seat at reported s.left machine machine' w w' s.serves.serves;
          counts = counts_ready hall more t none_begun no_fault goes id mid hall' s.serves.seat.id.number _ is
              (one_only Step Keeps 1 failures once hall mid hall' seats matches id.place s.serves.seat at reported s.left machine machine' w w' s.serves.serves);
        } in
        subst (λ (l : List (Option SeatState)). TurnDone t before (record { machine = machine'; hall = hall'; seats = l; watchers = w' })) (sym s.only_there) done

    pub ready_done : (id : ConnectionId) → IsOpen hall id → (t : Turn) (mid hall' : HallState) → mid ≡ hall_after_wait {E = ℕ} more (Ok (Ready id)) hall → (seats' : List (Option SeatState)) (machine' : M) (w' : W)
        → ServesReady Step Keeps t id.place (record { machine = machine; hall = mid; seats = seats; watchers = w }) (record { machine = machine'; hall = hall'; seats = seats'; watchers = w' })
        → TurnDone t before (record { machine = machine'; hall = hall'; seats = seats'; watchers = w' })
    ready_done id opened turn.Went mid hall' is seats' machine' w' s = at_place id opened 0 turn.Went refl refl refl (λ e. let no : ⊥ = cc in no) mid hall' is seats' machine' w' s
    ready_done id opened turn.NoMemory mid hall' is seats' machine' w' s = at_place id opened 1 turn.NoMemory refl refl refl (λ e. let no : ⊥ = cc in no) mid hall' is seats' machine' w' s
    ready_done id opened turn.Began mid hall' is seats' machine' w' s = absurd s
    ready_done id opened turn.Over mid hall' is seats' machine' w' s = absurd s
    ready_done id opened turn.HallFailed mid hall' is seats' machine' w' s = absurd s

    -- its time was up
    pub late_done : (id : ConnectionId) → IsOpen hall id → (mid hall' : HallState) → mid ≡ hall_after_wait {E = ℕ} more (Ok (Late id)) hall → hall' ≡ hall_after_close id.number mid → (seats' : List (Option SeatState))
        → seats' ≡ slice_set seats id.place None → TurnDone turn.Went before (record { machine = machine; hall = hall'; seats = seats'; watchers = w })
    late_done id opened mid hall' is moved seats' free =
        let there = seat_of hall seats id matches opened in
        let old : SeatState = there.0 in
        let waited : HallState = with_wait more hall in
        let changed : hall' ≡ set_connection waited id.number (with_close (with_break (connection_at hall id.number))) =
        moved ∙ ap (hall_after_close id.number) is ∙ close_set waited id.number (with_break (connection_at hall id.number)) opened.begun in
        let changed' : hall' ≡ set_connection waited old.id.number (with_close (with_break (connection_at waited old.id.number))) =
        changed ∙ ap (λ (i : ℕ). set_connection waited i (with_close (with_break (connection_at hall i)))) (sym there.2) in
        let seated = (matches.seated id.place old there.1).is_open in
        let opened' : IsOpen waited old.id = record { begun = seated.begun; at_place = seated.at_place; not_closed = seated.not_closed } in
        let s : ServesSeat Step Keeps 0 0 (record { machine = machine; seat = old; watchers = w }) None machine w waited hall' = passes (closes_late old waited hall' opened' changed') refl none in
        let reported : IsReported 0 old.id.number hall waited = none_reported old.id.number hall waited refl in
        let once : 0 ≤ 1 = omega arith in
        let done : TurnDone turn.Went before (record { machine = machine; hall = hall'; seats = slice_set seats id.place None; watchers = w }) = record {
          seats_match = one_matches Step Keeps 0 0 once hall waited hall' seats matches id.place old there.1 reported None machine machine w w s;
          serves_on = one_serves Step Keeps 0 0 once hall waited hall' seats matches id.place old there.1 reported None machine machine w w s;
          notified_first = one_told Step Keeps 0 0 once hall waited hall' seats matches id.place old there.1 reported None machine machine w w s;
          in_order = one_in_order Step Keeps 0 0 once hall waited hall' seats matches id.place old there.1 reported None machine machine w w s;
          counts = counts_late hall more hall' id.number (with_close (with_break (connection_at hall id.number))) changed;
        } in
        subst (λ (l : List (Option SeatState)). TurnDone turn.Went before (record { machine = machine; hall = hall'; seats = l; watchers = w })) (sym free) done

    -- a connection could be accepted
    pub knock_done : (free : Option ℕ) (k : ℕ) → free ≡ Some k → k < length seats → seat_at seats k ≡ None → (t : Turn) (mid hall' : HallState) → mid ≡ hall_after_wait {E = ℕ} more (Ok Knock) hall → (seats' : List (Option SeatState))
        → SeatsNextIn free seats seats' mid hall' t → TurnDone t before (record { machine = machine; hall = hall'; seats = seats'; watchers = w })
    knock_done free k is within empty turn.Went mid hall' waited seats' (same, moved) =
        subst (λ (l : List (Option SeatState)). TurnDone turn.Went before (record { machine = machine; hall = hall'; seats = l; watchers = w })) (sym same)
        (let e : hall' ≡ record (with_wait more hall) { knocks = hall.knocks + 1; accepts = hall.accepts + 1 } = moved ∙ ap (λ (h : HallState). record h { accepts = h.accepts + 1 }) waited in
        nothing_done turn.Went refl hall' (ap (λ (h : HallState). h.connections) e) (counts_none hall more hall' e))
    knock_done free k is within empty turn.HallFailed mid hall' waited seats' (same, moved) =
        subst (λ (l : List (Option SeatState)). TurnDone turn.HallFailed before (record { machine = machine; hall = hall'; seats = l; watchers = w })) (sym same)
        (let e : hall' ≡ record (with_wait more hall) { knocks = hall.knocks + 1; accepts = hall.accepts + 1; faults = hall.faults + 1 } = moved ∙ ap (λ (h : HallState). record h { accepts = h.accepts + 1; faults = h.faults + 1 }) waited in
        nothing_done turn.HallFailed refl hall' (ap (λ (h : HallState). h.connections) e) (counts_refused hall more hall' e))
    knock_done free k is within empty turn.Began mid hall' waited seats' (place, at, (id, same_place, number, seated, moved)) =
        let same : place ≡ k = some_inj place k (sym at ∙ is) in
        let began : hall' ≡ hall_after_accept {E = Unit {0}} place (Ok (Some id)) (hall_after_wait {E = ℕ} more (Ok Knock) hall) = moved ∙ ap (hall_after_accept {E = Unit {0}} place (Ok (Some id))) waited in
        let longer : hall'.connections ≡ hall.connections ++ new_connection place (option_map first_text hall.to_come) ∷ [] = ap (λ (h : HallState). h.connections) began in
        let next : id.number ≡ length hall.connections = number ∙ ap (λ (h : HallState). length h.connections) waited in
        let within' : place < length seats = omega (arith, within, same) in
        let empty' : seat_at seats place ≡ None = ap (seat_at seats) same ∙ empty in
        subst (λ (l : List (Option SeatState)). TurnDone turn.Began before (record { machine = machine; hall = hall'; seats = l; watchers = w })) (sym seated) (record {
          seats_match = matches_accepted hall hall' seats place (option_map first_text hall.to_come) id longer same_place next matches within' empty';
          serves_on = serves_accepted hall hall' seats place (option_map first_text hall.to_come) id longer same_place next matches within' empty' Step Keeps machine w none;
          notified_first = inr (refl, none);
          in_order = accepted_in_order hall hall' seats place (option_map first_text hall.to_come) id longer same_place next matches within' empty';
          counts = counts_began hall more hall' place id began;
        })
    knock_done free k is within empty turn.NoMemory mid hall' waited seats' s = absurd s
    knock_done free k is within empty turn.Over mid hall' waited seats' s = absurd s

-- a change at one place keeps the number of seats
pub same_number_at : (k : ℕ) (seats seats' : List (Option SeatState)) (seat : Option SeatState) → seats' ≡ slice_set seats k seat → length seats' ≡ length seats
same_number_at k seats seats' seat is = ap (λ (l : List (Option SeatState)). length l) is ∙ length-set seats k seat

-- there is a place for the next connection exactly where more are taken and a seat is free
pub place_offered : (takes_more : Bool) (free : Option ℕ) (seats : List (Option SeatState)) → free ≡ (if takes_more then position is_none seats else None) → is_some free ≡ (takes_more && list_any is_none seats)
place_offered takes_more free seats first = ap (λ (o : Option ℕ). is_some o) first ∙ by_case takes_more
  where
    by_case : (b : Bool) → is_some (if b then position is_none seats else None) ≡ (b && list_any is_none seats)
    by_case true = first_any is_none seats
    by_case false = refl

-- a place was offered where more were taken and a seat was free
pub counts_offered : (t : Turn) (more takes_more : Bool) (seats : List (Option SeatState)) (old new : HallState) → more ≡ (takes_more && list_any is_none seats) → CountsTurn t (if more then 1 else 0) old new
    → CountsTurn t (places_offered takes_more seats) old new
counts_offered t more takes_more seats old new is counts = subst (λ (b : Bool). CountsTurn t (if b then 1 else 0) old new) is counts

-- a turn of an open connection begins none
pub ready_begins_none : {M E W : Type 0} (Step : M → Request → List ℕ → M → Option E → Type 0) (Keeps : List E → W → W → Type 0) (t : Turn) (k : ℕ) (old new : HallServer M W) → ServesReady Step Keeps t k old new → t ≡ turn.Began → ⊥
ready_begins_none Step Keeps t k old new s is = subst (λ (t : Turn). ServesReady Step Keeps t k old new) is s

-- a turn keeps the number of seats: that of an open connection
pub ready_same_number : {M E W : Type 0} (Step : M → Request → List ℕ → M → Option E → Type 0) (Keeps : List E → W → W → Type 0) (t : Turn) (k : ℕ) (old new : HallServer M W) → ServesReady Step Keeps t k old new → length new.seats ≡ length old.seats
ready_same_number Step Keeps turn.Went k old new s = same_number_at k old.seats new.seats s.left s.only_there
ready_same_number Step Keeps turn.NoMemory k old new s = same_number_at k old.seats new.seats s.left s.only_there
ready_same_number Step Keeps turn.Began k old new s = absurd s
ready_same_number Step Keeps turn.Over k old new s = absurd s
ready_same_number Step Keeps turn.HallFailed k old new s = absurd s

-- and one in which a connection could be accepted
pub knock_same_number : (free : Option ℕ) (seats seats' : List (Option SeatState)) (mid hall' : HallState) (t : Turn) → SeatsNextIn free seats seats' mid hall' t → length seats' ≡ length seats
knock_same_number free seats seats' mid hall' turn.Went (same, moved) = ap (λ (l : List (Option SeatState)). length l) same
knock_same_number free seats seats' mid hall' turn.HallFailed (same, moved) = ap (λ (l : List (Option SeatState)). length l) same
knock_same_number free seats seats' mid hall' turn.Began (place, at, (id, same_place, number, seated, moved)) = same_number_at place seats seats' (Some (new_seat id)) seated
knock_same_number free seats seats' mid hall' turn.NoMemory s = absurd s
knock_same_number free seats seats' mid hall' turn.Over s = absurd s

-- a free place that was found
pub record FreePlace (seats : List (Option SeatState)) (free : Option ℕ) : Type 0 where
  pub place : ℕ
  pub is : free ≡ Some place
  pub within : place < length seats
  pub empty : seat_at seats place ≡ None

pub place_found : (seats : List (Option SeatState)) (free : Option ℕ) → is_some free ≡ true → IfSome free (λ k. (k < length seats) × (seat_at seats k ≡ None)) → FreePlace seats free
place_found seats None some p = absurd (true≢false (sym some))
place_found seats (Some k) some p = record { place = k; is = refl; within = p.0; empty = p.1 }

-- ---- the hall after a wait

module _ (hall mid : HallState) (more : Bool) (seats : List (Option SeatState)) (matches : MatchesSeats hall seats) (id : ConnectionId) (opened : IsOpen hall id) where
  pub ready_open : mid ≡ hall_after_wait {E = ℕ} more (Ok (Ready id)) hall → IsOpen mid id
  ready_open is = subst (λ (h : HallState). IsOpen h id) (sym is) (open_still hall (hall_after_wait {E = ℕ} more (Ok (Ready id)) hall) (ready_still hall more id opened) id opened)

  pub ready_matches : mid ≡ hall_after_wait {E = ℕ} more (Ok (Ready id)) hall → MatchesSeats mid seats
  ready_matches is = subst (λ (h : HallState). MatchesSeats h seats) (sym is) (matches_after hall (hall_after_wait {E = ℕ} more (Ok (Ready id)) hall) (ready_still hall more id opened) seats matches)

  pub late_open : mid ≡ hall_after_wait {E = ℕ} more (Ok (Late id)) hall → IsOpen mid id
  late_open is =
      let waited : HallState = with_wait more hall in
      let before : IsOpen waited id = record { begun = opened.begun; at_place = opened.at_place; not_closed = opened.not_closed } in
      subst (λ (h : HallState). IsOpen h id) (sym is) (open_set waited id (with_break (connection_at hall id.number)) before refl refl)

-- ---- how many requests the machine must be able to answer

module _ {M : Type 0} (Takes : M → ℕ → Type 0) (fewer : (machine : M) (n : ℕ) → Takes machine (suc n) → Takes machine n) where
  pub none_more : (left : ℕ) (machine : M) (n : ℕ) → Takes machine (left + (0 * 1000 + n)) → Takes machine (left + n)
  none_more left machine n takes = let e : left + (0 * 1000 + n) ≡ left + n = omega arith in subst (Takes machine) e takes

  pub takes_knock : (seats : List (Option SeatState)) (free : Option ℕ) (k : ℕ) → free ≡ Some k → k < length seats → seat_at seats k ≡ None → (t : Turn) (mid hall' : HallState) (seats' : List (Option SeatState))
      → SeatsNextIn free seats seats' mid hall' t → (machine : M) (n : ℕ) → Takes machine (requests_left seats + (begun_in t * 1000 + n)) → Takes machine (requests_left seats' + n)
  takes_knock seats free k is within empty turn.Went mid hall' seats' (same, moved) machine n takes = subst (λ (l : List (Option SeatState)). Takes machine (requests_left l + n)) (sym same) (none_more (requests_left seats) machine n takes)
  takes_knock seats free k is within empty turn.HallFailed mid hall' seats' (same, moved) machine n takes = subst (λ (l : List (Option SeatState)). Takes machine (requests_left l + n)) (sym same) (none_more (requests_left seats) machine n takes)
  takes_knock seats free k is within empty turn.Began mid hall' seats' (place, at, (id, same_place, number, seated, moved)) machine n takes =
      let same : place ≡ k = some_inj place k (sym at ∙ is) in
      subst (λ (l : List (Option SeatState)). Takes machine (requests_left l + n)) (sym seated)
      (takes_accepted Takes fewer seats place id (omega (arith, within, same)) (ap (seat_at seats) same ∙ empty) machine n takes)
  takes_knock seats free k is within empty turn.NoMemory mid hall' seats' s machine n takes = absurd s
  takes_knock seats free k is within empty turn.Over mid hall' seats' s machine n takes = absurd s

  pub takes_late : (seats : List (Option SeatState)) (k : ℕ) → k < length seats → (seats' : List (Option SeatState)) → seats' ≡ slice_set seats k None → (machine : M) (n : ℕ) → Takes machine (requests_left seats + n) → Takes machine (requests_left seats' + n)
  takes_late seats k within seats' free machine n takes = subst (λ (l : List (Option SeatState)). Takes machine (requests_left l + n)) (sym free) (takes_closed Takes fewer seats k within machine n takes)

  -- none begins in a turn of an open connection
  pub takes_ready : {E W : Type 0} (Step : M → Request → List ℕ → M → Option E → Type 0) (Keeps : List E → W → W → Type 0) (t : Turn) (k : ℕ) (old new : HallServer M W) → ServesReady Step Keeps t k old new
      → ((n : ℕ) → Takes old.machine (requests_left old.seats + n) → Takes new.machine (requests_left new.seats + n)) → (n : ℕ) → Takes old.machine (requests_left old.seats + (begun_in t * 1000 + n)) → Takes new.machine (requests_left new.seats + n)
  takes_ready Step Keeps turn.Went k old new s one n takes = one n (none_more (requests_left old.seats) old.machine n takes)
  takes_ready Step Keeps turn.NoMemory k old new s one n takes = one n (none_more (requests_left old.seats) old.machine n takes)
  takes_ready Step Keeps turn.Began k old new s one n takes = absurd s
  takes_ready Step Keeps turn.Over k old new s one n takes = absurd s
  takes_ready Step Keeps turn.HallFailed k old new s one n takes = absurd s
