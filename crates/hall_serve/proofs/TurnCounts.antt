-- What a turn leaves of a hall's counts.
use Rattle.std.proofs.Common.{◌≡◌, ℕ, ◌+◌, Bool, if◌then◌else◌, Some, Ok, Err, length, refl, sym, ap, subst, ◌∙◌, arith}
use Rattle.std.proofs.lemmas.List.{length-set}
use Rattle.halls.specs.CallResults.{IsOver}
use Rattle.halls.specs.HallState.{ConnectionState, HallState, connection_at, new_connection}
use Rattle.halls.specs.StateChanges.{first_text, hall_after_accept, hall_after_wait, with_report, with_wait}
use Rattle.halls.specs.declared.hall.ConnectionId.{ConnectionId}
use Rattle.halls.specs.declared.hall.Event.TheVariants.{Knock, Ready, Quiet, Over}
use Rattle.hall_serve.specs.declared.turns.Turn.{Turn}
use Rattle.hall_serve.specs.declared.turns.Turn.TheVariants as turn
use Rattle.hall_serve.specs.ServedHalls.{CountsTurn, begun_in, faults_in}
use Rattle.hall_serve.specs.inner.SeatTurns.{set_connection}
use Rattle.std.specs.Prelude.{option_map}
use Rattle.hall_serve.proofs.ListPlaces.{length-more}

went_over : turn.Went ≡ turn.Over → ⊥
went_over e = cc

module _ (hall : HallState) (more : Bool) where
  abbrev offered : ℕ
  offered = if more then 1 else 0

  -- one connection changed
  pub counts_one : (t : Turn) → begun_in t ≡ 0 → faults_in t ≡ 0 → (t ≡ turn.Over → ⊥) → (mid hall' : HallState) (n : ℕ) (line' : ConnectionState) → hall' ≡ set_connection mid n line'
      → mid.waits ≡ hall.waits + 1 → mid.open_waits ≡ hall.open_waits + offered → mid.faults ≡ hall.faults → mid.knocks ≡ hall.knocks → mid.accepts ≡ hall.accepts → mid.listening ≡ hall.listening → length mid.connections ≡ length hall.connections → CountsTurn t offered hall hall'
  counts_one t none whole goes mid hall' n line' is waits open_waits faults knocks accepts listening count = record {
    waits = ap (λ (h : HallState). h.waits) is ∙ waits;
    open_waits = ap (λ (h : HallState). h.open_waits) is ∙ open_waits;
    faults = let e = ap (λ (h : HallState). h.faults) is in omega (arith, e, faults, whole);
    connections = let e = ap (λ (h : HallState). length h.connections) is in let s = length-set mid.connections n line' in omega (arith, e, s, count, none);
    knocks = let k = ap (λ (h : HallState). h.knocks) is in let a = ap (λ (h : HallState). h.accepts) is in omega (arith, k, a, knocks, accepts);
    same_listening = ap (λ (h : HallState). h.listening) is ∙ listening;
    over = λ is_over. absurd (goes is_over);
  }

  pub counts_ready : (t : Turn) → begun_in t ≡ 0 → faults_in t ≡ 0 → (t ≡ turn.Over → ⊥) → (id : ConnectionId) (mid hall' : HallState) (n : ℕ) (line' : ConnectionState) → mid ≡ hall_after_wait {E = ℕ} more (Ok (Ready id)) hall → hall' ≡ set_connection mid n line' → CountsTurn t offered hall hall'
  counts_ready t none whole goes id mid hall' n line' is moved =
      counts_one t none whole goes mid hall' n line' moved (ap (λ (h : HallState). h.waits) is) (ap (λ (h : HallState). h.open_waits) is) (ap (λ (h : HallState). h.faults) is) (ap (λ (h : HallState). h.knocks) is) (ap (λ (h : HallState). h.accepts) is) (ap (λ (h : HallState). h.listening) is)
      (ap (λ (h : HallState). length h.connections) is ∙ length-set hall.connections id.number (with_report (connection_at hall id.number)))

  pub counts_late : (hall' : HallState) (n : ℕ) (line' : ConnectionState) → hall' ≡ set_connection (with_wait more hall) n line' → CountsTurn turn.Went offered hall hall'
  counts_late hall' n line' is = counts_one turn.Went refl refl went_over (with_wait more hall) hall' n line' is refl refl refl refl refl refl refl

  pub counts_quiet : (hall' : HallState) → hall' ≡ hall_after_wait {E = ℕ} more (Ok Quiet) hall → CountsTurn turn.Went offered hall hall'
  counts_quiet hall' is = subst (CountsTurn turn.Went offered hall) (sym is) (record {
    waits = refl;
    open_waits = refl;
    faults = omega arith;
    connections = omega arith;
    knocks = omega arith;
    same_listening = refl;
    over = λ e. absurd (went_over e);
  })

  pub counts_over : (hall' : HallState) → hall' ≡ hall_after_wait {E = ℕ} more (Ok Over) hall → IsOver hall → CountsTurn turn.Over offered hall hall'
  counts_over hall' is none = subst (CountsTurn turn.Over offered hall) (sym is) (record {
    waits = refl;
    open_waits = refl;
    faults = omega arith;
    connections = omega arith;
    knocks = omega arith;
    same_listening = refl;
    over = λ _. record { none_to_come = none.none_to_come; all_closed = none.all_closed };
  })

  pub counts_failure : (hall' : HallState) → hall' ≡ hall_after_wait {E = ℕ} more (Err 0) hall → CountsTurn turn.HallFailed offered hall hall'
  counts_failure hall' is = subst (CountsTurn turn.HallFailed offered hall) (sym is) (record {
    waits = refl;
    open_waits = refl;
    faults = refl;
    connections = omega arith;
    knocks = omega arith;
    same_listening = refl;
    over = λ e. absurd (let no : ⊥ = cc in no);
  })

  -- a connection could be accepted
  pub counts_began : (hall' : HallState) (place : ℕ) (id : ConnectionId) → hall' ≡ hall_after_accept {E = ℕ} place (Ok (Some id)) (hall_after_wait {E = ℕ} more (Ok Knock) hall) → CountsTurn turn.Began offered hall hall'
  counts_began hall' place id is = subst (CountsTurn turn.Began offered hall) (sym is) (record {
    waits = refl;
    open_waits = refl;
    faults = omega arith;
    connections = length-more hall.connections (new_connection place (option_map first_text hall.to_come));
    knocks = omega arith;
    same_listening = refl;
    over = λ e. absurd (let no : ⊥ = cc in no);
  })

  pub counts_none : (hall' : HallState) → hall' ≡ record (with_wait more hall) { knocks = hall.knocks + 1; accepts = hall.accepts + 1 } → CountsTurn turn.Went offered hall hall'
  counts_none hall' is = subst (CountsTurn turn.Went offered hall) (sym is) (record {
    waits = refl;
    open_waits = refl;
    faults = omega arith;
    connections = omega arith;
    knocks = omega arith;
    same_listening = refl;
    over = λ e. absurd (went_over e);
  })

  pub counts_refused : (hall' : HallState) → hall' ≡ record (with_wait more hall) { knocks = hall.knocks + 1; accepts = hall.accepts + 1; faults = hall.faults + 1 } → CountsTurn turn.HallFailed offered hall hall'
  counts_refused hall' is = subst (CountsTurn turn.HallFailed offered hall) (sym is) (record {
    waits = refl;
    open_waits = refl;
    faults = refl;
    connections = omega arith;
    knocks = omega arith;
    same_listening = refl;
    over = λ e. absurd (let no : ⊥ = cc in no);
  })
