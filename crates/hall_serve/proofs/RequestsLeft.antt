-- How many more requests the machine must be able to answer.
use Rattle.std.proofs.Common.{◌≡◌, ℕ, zero, suc, ◌+◌, ◌-◌, ◌*◌, ◌<◌, ◌≤◌, Bool, true, false, List, [], ◌∷◌, length, Option, None, Some, refl, sym, ap, subst, ◌∙◌, if◌then◌else◌, arith}
use Rattle.std.specs.Prelude.{slice_set}
use Rattle.std.proofs.lemmas.List.{set-get_or}
use Rattle.halls.specs.HallState.{ConnectionState}
use Rattle.halls.specs.declared.hall.ConnectionId.{ConnectionId}
use Rattle.http_serve.proofs.Rooms.{takes_less}
use Rattle.http_wire.specs.declared.limits.TheConstants.{MAX_REQUESTS}
use Rattle.http_wire.specs.declared.request.Request.{Request}
use Rattle.http_wire.specs.NextRequests.{RequestReaderState}
use Rattle.hall_serve.specs.Seats.{SeatState, requests_left, requests_left_at, seat_at}
use Rattle.hall_serve.specs.inner.NewSeats.{new_seat}
use Rattle.hall_serve.specs.inner.SeatTurns.{AnswersFirst, IsSeatAfter, PassesBytes, SeatServer, closed, nothing, some_read, some_written}

-- all seats but one, and that one
left_split : (seats : List (Option SeatState)) (k : ℕ) (new : Option SeatState) → k < length seats → requests_left (slice_set seats k new) ≡ requests_left_at new + requests_left (slice_set seats k None)
left_split [] k new inside = absurd (let no : ⊥ = omega arith in no)
left_split (place ∷ places) zero new inside = let goal : requests_left_at new + requests_left places ≡ requests_left_at new + (0 + requests_left places) = omega arith in goal
left_split (place ∷ places) (suc n) new inside =
    let e = left_split places n new (omega arith) in
    let goal : requests_left_at place + requests_left (slice_set places n new) ≡ requests_left_at new + (requests_left_at place + requests_left (slice_set places n None)) = omega (arith, e) in
    goal

left_all : (seats : List (Option SeatState)) (k : ℕ) → k < length seats → requests_left seats ≡ requests_left_at (seat_at seats k) + requests_left (slice_set seats k None)
left_all seats k inside = ap requests_left (sym (set-get_or seats k None)) ∙ left_split seats k (seat_at seats k) inside

-- what a seat may ask, by what it said
left_by : Bool → ℕ → ℕ
left_by closing requests = if closing then 0 else MAX_REQUESTS - requests

after_left : (old seat : SeatState) (reader : RequestReaderState) (pending : List ℕ) (ended : Bool) → IsSeatAfter old reader pending ended seat → reader.requests ≡ old.feed.reader.requests
    → requests_left_at (Some seat) ≡ requests_left_at (Some old)
after_left old seat reader pending ended after same =
    ap (λ (b : Bool). if b then 0 else MAX_REQUESTS - seat.feed.reader.requests) after.same_closing
    ∙ ap (λ (n : ℕ). if old.closing then 0 else MAX_REQUESTS - n) (ap (λ (r : RequestReaderState). r.requests) after.reader ∙ same)

passed_left : (old : SeatState) (new : Option SeatState) (line line' : ConnectionState) → PassesBytes old new line line' → requests_left_at new ≤ requests_left_at (Some old)
passed_left old new line line' (nothing reads writes seat now after is) = at_most new seat now (after_left old seat old.feed.reader old.pending old.ended after refl)
  where
    at_most : (new : Option SeatState) (seat : SeatState) → new ≡ Some seat → requests_left_at (Some seat) ≡ requests_left_at (Some old) → requests_left_at new ≤ requests_left_at (Some old)
    at_most new seat now same = let e = ap requests_left_at now in omega (arith, e, same)
passed_left old new line line' (some_read count buf reads writes seat now not_ended after is) =
    let same = after_left old seat _ old.pending line'.ended after refl in let e = ap requests_left_at now in omega (arith, e, same)
passed_left old new line line' (some_written count reads writes seat now after is) =
    let same = after_left old seat old.feed.reader _ old.ended after refl in let e = ap requests_left_at now in omega (arith, e, same)
passed_left old new line line' (closed reads writes is_broken now why is) = let e = ap requests_left_at now in omega (arith, e)

left_open : (seat : SeatState) → seat.closing ≡ false → requests_left_at (Some seat) ≡ MAX_REQUESTS - seat.feed.reader.requests
left_open seat goes_on = ap (λ (b : Bool). if b then 0 else MAX_REQUESTS - seat.feed.reader.requests) goes_on

module _ {M E W : Type 0} (Step : M → Request → List ℕ → M → Option E → Type 0) (Keeps : List E → W → W → Type 0) where
  answered_left : (old new : SeatServer M W) → old.seat.feed.reader.requests < MAX_REQUESTS → AnswersFirst Step Keeps old new → requests_left_at (Some new.seat) + 1 ≤ requests_left_at (Some old.seat)
  answered_left old new few a = by_closing new.seat.closing refl
    where
      before : requests_left_at (Some old.seat) ≡ MAX_REQUESTS - old.seat.feed.reader.requests
      before = left_open old.seat a.goes_on

      by_closing : (b : Bool) → new.seat.closing ≡ b → requests_left_at (Some new.seat) + 1 ≤ requests_left_at (Some old.seat)
      by_closing true is =
          let e : requests_left_at (Some new.seat) ≡ 0 = ap (λ (c : Bool). if c then 0 else MAX_REQUESTS - new.seat.feed.reader.requests) is in
          let b = before in omega (arith, e, b, few)
      by_closing false is =
          let e = left_open new.seat is in
          let r = ap (λ (r : RequestReaderState). r.requests) (a.reader is) in
          let fewer = a.few_requests is in
          let b = before in omega (arith, e, b, r, fewer, few)

module _ {M : Type 0} (Takes : M → ℕ → Type 0) (fewer : (machine : M) (n : ℕ) → Takes machine (suc n) → Takes machine n) where
  -- the machine can answer one request of a connection that goes on
  pub takes_one : (machine : M) (seat : SeatState) → seat.closing ≡ false → seat.feed.reader.requests < MAX_REQUESTS → Takes machine (requests_left_at (Some seat)) → Takes machine 1
  takes_one machine seat goes_on few takes = takes_less Takes fewer machine 1 (requests_left_at (Some seat)) (let e = left_open seat goes_on in omega (arith, e, few)) takes

  pub takes_passed : (machine : M) (old : SeatState) (new : Option SeatState) (line line' : ConnectionState) → PassesBytes old new line line' → (n : ℕ) → Takes machine (requests_left_at (Some old) + n) → Takes machine (requests_left_at new + n)
  takes_passed machine old new line line' p n takes = takes_less Takes fewer machine (requests_left_at new + n) (requests_left_at (Some old) + n) (let e = passed_left old new line line' p in omega (arith, e)) takes

  pub takes_answered : {E W : Type 0} (Step : M → Request → List ℕ → M → Option E → Type 0) (Keeps : List E → W → W → Type 0) (old new : SeatServer M W) → old.seat.feed.reader.requests < MAX_REQUESTS → AnswersFirst Step Keeps old new
      → ((n : ℕ) → Takes old.machine (suc n) → Takes new.machine n) → (n : ℕ) → Takes old.machine (requests_left_at (Some old.seat) + n) → Takes new.machine (requests_left_at (Some new.seat) + n)
  takes_answered Step Keeps old new few a one n takes =
      one (requests_left_at (Some new.seat) + n)
      (takes_less Takes fewer old.machine (suc (requests_left_at (Some new.seat) + n)) (requests_left_at (Some old.seat) + n) (let e = answered_left Step Keeps old new few a in omega (arith, e)) takes)

  -- at one of the seats
  pub takes_at : (seats : List (Option SeatState)) (k : ℕ) → k < length seats → (machine : M) → Takes machine (requests_left seats) → Takes machine (requests_left_at (seat_at seats k))
  takes_at seats k inside machine takes = takes_less Takes fewer machine (requests_left_at (seat_at seats k)) (requests_left seats) (let e = left_all seats k inside in omega (arith, e)) takes

  pub takes_set : (seats : List (Option SeatState)) (k : ℕ) (new : Option SeatState) → k < length seats → (machine machine' : M)
      → ((n : ℕ) → Takes machine (requests_left_at (seat_at seats k) + n) → Takes machine' (requests_left_at new + n)) → (n : ℕ) → Takes machine (requests_left seats + n) → Takes machine' (requests_left (slice_set seats k new) + n)
  takes_set seats k new inside machine machine' one n takes =
      let others : ℕ = requests_left (slice_set seats k None) in
      let before : requests_left seats + n ≡ requests_left_at (seat_at seats k) + (others + n) = let e = left_all seats k inside in omega (arith, e) in
      let after : requests_left_at new + (others + n) ≡ requests_left (slice_set seats k new) + n = let e = left_split seats k new inside in omega (arith, e) in
      subst (Takes machine') after (one (others + n) (subst (Takes machine) before takes))

  -- a connection began, or was closed
  pub takes_accepted : (seats : List (Option SeatState)) (k : ℕ) (id : ConnectionId) → k < length seats → seat_at seats k ≡ None → (machine : M) (n : ℕ)
      → Takes machine (requests_left seats + (1 * 1000 + n)) → Takes machine (requests_left (slice_set seats k (Some (new_seat id))) + n)
  takes_accepted seats k id inside free machine n takes =
      let e = left_all seats k inside in
      let f = ap requests_left_at free in
      let g = left_split seats k (Some (new_seat id)) inside in
      let same : requests_left seats + (1 * 1000 + n) ≡ requests_left (slice_set seats k (Some (new_seat id))) + n = omega (arith, e, f, g) in
      subst (Takes machine) same takes

  pub takes_closed : (seats : List (Option SeatState)) (k : ℕ) → k < length seats → (machine : M) (n : ℕ) → Takes machine (requests_left seats + n) → Takes machine (requests_left (slice_set seats k None) + n)
  takes_closed seats k inside machine n takes = takes_less Takes fewer machine (requests_left (slice_set seats k None) + n) (requests_left seats + n) (let e = left_all seats k inside in omega (arith, e)) takes
