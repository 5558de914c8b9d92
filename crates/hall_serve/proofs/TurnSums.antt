-- Turns after turns.
use Rattle.std.proofs.Common.{◌≡◌, ℕ, suc, ◌+◌, ◌-◌, ◌*◌, ◌<◌, ◌≤◌, Bool, true, false, List, [], ◌++◌, Option, None, length, refl, sym, ap, subst, ◌∙◌, append_assoc, arith}
use Rattle.std.proofs.lemmas.List.{append-nil, length-append}
use Rattle.std.specs.Prelude.{◌↔◌}
use Rattle.halls.specs.HallState.{AreAllClosed, HallState, connection_at}
use Rattle.http_wire.specs.declared.request.Request.{Request}
use Rattle.hall_serve.specs.declared.turns.Turn.{Turn}
use Rattle.hall_serve.specs.Exchanges.{Exchange, edits, exchanges_on}
use Rattle.hall_serve.specs.Seats.{MatchesSeats, SeatState, seat_at}
use Rattle.hall_serve.specs.ServedHalls.{AnswersKnocks, AreTriesInOrder, CountsTurn, HallServer, HasServed, MakesTurns, ServesOn, WritesOrAnswers, begun_in, faults_in, memory_failures_in, places_offered}
use Rattle.hall_serve.proofs.ExchangeLists.{edits-append, on-append, steps-append}
use Rattle.hall_serve.proofs.ListPlaces.{none_some}

module _ {M E W : Type 0} (Step : M → Request → List ℕ → M → Option E → Type 0) (Keeps : List E → W → W → Type 0) where
  -- no turn yet
  pub no_turn : (old : HallServer M W) → Keeps [] old.watchers old.watchers → (all : List (Exchange E)) → HasServed old.hall old.seats all → ServesOn Step Keeps all 0 old old
  no_turn old none all served = record {
    more = [];
    steps = refl;
    served = subst (HasServed old.hall old.seats) (sym (append-nil all)) served;
    kept = none;
    goes_on = λ n. omega arith;
  }

  module _ (keeps_more : (xs ys : List E) (a b c : W) → Keeps xs a b → Keeps ys b c → Keeps (xs ++ ys) a c) where
    -- and another turn
    pub turn_more : (all : List (Exchange E)) (f g : ℕ) (old mid new : HallServer M W) → (s : ServesOn Step Keeps all f old mid) → ServesOn Step Keeps (all ++ s.more) g mid new → ServesOn Step Keeps all (f + g) old new
    turn_more all f g old mid new s t = record {
      more = s.more ++ t.more;
      steps = steps-append Step old.machine mid.machine new.machine s.more t.more s.steps t.steps;
      served = subst (HasServed new.hall new.seats) (append_assoc all s.more t.more) t.served;
      kept = subst (λ (es : List E). Keeps es old.watchers new.watchers) (sym (edits-append s.more t.more)) (keeps_more (edits s.more) (edits t.more) old.watchers mid.watchers new.watchers s.kept t.kept);
      goes_on = λ n.
          let a = s.goes_on n in
          let b = t.goes_on n in
          let e = ap length (on-append n s.more t.more) ∙ length-append (exchanges_on n s.more) (exchanges_on n t.more) in
          omega (arith, a, b, e);
    }

    pub turns_more : (f : ℕ) (t : Turn) (g : ℕ) → g ≡ f + memory_failures_in t → (old mid new : HallServer M W) → ((all : List (Exchange E)) → HasServed old.hall old.seats all → ServesOn Step Keeps all f old mid)
        → ((all : List (Exchange E)) → HasServed mid.hall mid.seats all → ServesOn Step Keeps all (memory_failures_in t) mid new) → (all : List (Exchange E)) → HasServed old.hall old.seats all → ServesOn Step Keeps all g old new
    turns_more f t g sum old mid new before one all served =
        let s = before all served in
        subst (λ (h : ℕ). ServesOn Step Keeps all h old new) (sym sum) (turn_more all f (memory_failures_in t) old mid new s (one (all ++ s.more) s.served))

-- after turns: how many connections began, and how many waits there were
pub record CountsTurns (connections turns : ℕ) (old new : HallState) : Type 0 where
  pub waits : new.waits ≡ old.waits + turns
  pub faults : new.faults ≡ old.faults
  pub begun : length new.connections ≡ length old.connections + connections
  pub knocks : AnswersKnocks old new
  pub same_listening : new.listening ≡ old.listening

pub no_count : (hall : HallState) → CountsTurns 0 0 hall hall
no_count hall = record { waits = omega arith; faults = refl; begun = omega arith; knocks = omega arith; same_listening = refl }

pub count_more : (connections turns connections' : ℕ) (t : Turn) → faults_in t ≡ 0 → connections' ≡ connections + begun_in t → (offered : ℕ) (old mid new : HallState) → CountsTurns connections turns old mid → CountsTurn t offered mid new → CountsTurns connections' (turns + 1) old new
count_more connections turns connections' t whole sum offered old mid new so_far one = record {
  waits = let a = so_far.waits in let b = one.waits in omega (arith, a, b);
  faults = let a = so_far.faults in let b = one.faults in omega (arith, a, b, whole);
  begun = let a = so_far.begun in let b = one.connections in omega (arith, a, b, sum);
  knocks = let a = so_far.knocks in let b = one.knocks in omega (arith, a, b);
  same_listening = one.same_listening ∙ so_far.same_listening;
}

module _ {M E W : Type 0} (Keeps : List E → W → W → Type 0) where
  -- and another turn, in which more are taken where fewer than wanted began before it
  pub turn_made : (begun count connections turns : ℕ) (old mid new : HallServer M W) (t : Turn) (more : Bool) → (more ≡ true → connections < count) → (connections < count → more ≡ true)
      → MakesTurns Keeps (begun + count) turns old mid → length mid.hall.connections ≡ begun + connections → length new.seats ≡ length mid.seats → MatchesSeats new.hall new.seats → WritesOrAnswers Keeps mid new → AreTriesInOrder mid.seats mid.hall new.hall
      → CountsTurn t (places_offered more mid.seats) mid.hall new.hall → MakesTurns Keeps (begun + count) (turns + 1) old new
  turn_made begun count connections turns old mid new t more fewer_if below so_far sum number matches notified in_order counts =
      let next : suc turns ≡ turns + 1 = omega arith in
      let fewer : (more ≡ true) ↔ (length mid.hall.connections < begun + count) = (λ is. (let l = fewer_if is in omega (arith, l, sum)), λ l. below (omega (arith, l, sum))) in
      subst (λ (n : ℕ). MakesTurns Keeps (begun + count) n old new) next
      (mid, so_far, (more, fewer, record { made = t; same_number = number; seats_match = matches; notified_first = notified; in_order = in_order; counts = counts }))

-- where all seats are free, all connections are closed
pub all_free_closed : (hall : HallState) (seats : List (Option SeatState)) → MatchesSeats hall seats → ((k : ℕ) → seat_at seats k ≡ None) → AreAllClosed hall
all_free_closed hall seats matches free = λ n below. by_closed n below (connection_at hall n).closed refl
  where
    by_closed : (n : ℕ) → n < length hall.connections → (b : Bool) → (connection_at hall n).closed ≡ b → b ≡ true
    by_closed n below true is = refl
    by_closed n below false is = let h = matches.covered n below is in absurd (none_some h.seat (sym (free (connection_at hall n).place) ∙ h.is_there))

-- the machine can answer the requests of those that may still begin
module _ {M : Type 0} (Takes : M → ℕ → Type 0) where
  pub room_at_first : (machine : M) (left count : ℕ) → Takes machine (left + count * 1000) → Takes machine (left + (count - 0) * 1000)
  room_at_first machine left count takes = let e : left + count * 1000 ≡ left + (count - 0) * 1000 = omega arith in subst (Takes machine) e takes

  pub room_after : (machine machine' : M) (left left' count connections connections' begun : ℕ) → connections' ≡ connections + begun → connections' ≤ count
      → ((n : ℕ) → Takes machine (left + (begun * 1000 + n)) → Takes machine' (left' + n)) → Takes machine (left + (count - connections) * 1000) → Takes machine' (left' + (count - connections') * 1000)
  room_after machine machine' left left' count connections connections' begun sum within one takes =
      let e : left + (count - connections) * 1000 ≡ left + (begun * 1000 + (count - connections') * 1000) = omega (arith, sum, within) in
      one ((count - connections') * 1000) (subst (Takes machine) e takes)
