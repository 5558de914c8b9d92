-- What is true between two turns is so after a wait in which no connection's time was up.
use Rattle.std.proofs.Common.{◌≡◌, ◌≢◌, ℕ, ◌<◌, ◌==◌, ◌⊎◌, inl, inr, Bool, true, false, List, ◌++◌, length, Option, None, Ok, refl, sym, ap, subst, ◌∙◌, arith}
use Rattle.std.specs.Prelude.{slice_index_or}
use Rattle.std.proofs.lemmas.List.{get_or-set_same, get_or-set_other, length-set}
use Rattle.std.proofs.lemmas.Bool.Decides.{eqb_tells}
use Rattle.halls.specs.HallState.{ConnectionState, HallState, connection_at, new_connection, with_connection}
use Rattle.halls.specs.StateChanges.{hall_after_wait, with_report, with_wait}
use Rattle.halls.specs.CallResults.{IsOpen}
use Rattle.halls.specs.declared.hall.ConnectionId.{ConnectionId}
use Rattle.halls.specs.declared.hall.Event.TheVariants.{Ready}
use Rattle.hall_serve.specs.Exchanges.{Exchange, exchanges_on}
use Rattle.hall_serve.specs.Seats.{MatchesSeats, SeatState, seat_at}
use Rattle.hall_serve.specs.ServedConnections.{BeginsWithItems, EndsAfter, IsServed, after_break, after_reply, at_end}
use Rattle.hall_serve.specs.ServedHalls.{HasServed, HoldsRest}

-- nothing was done on the connection, but it may have been reported ready
pub record IsStill (old new : ConnectionState) : Type 0 where
  pub place : new.place ≡ old.place
  pub given : new.given ≡ old.given
  pub ended : new.ended ≡ old.ended
  pub taken : new.taken ≡ old.taken
  pub closed : new.closed ≡ old.closed
  pub broken : new.broken ≡ old.broken
  pub reads : new.reads ≡ old.reads
  pub writes : new.writes ≡ old.writes

pub record AreStill (hall hall' : HallState) : Type 0 where
  pub size : length hall'.connections ≡ length hall.connections
  pub each : (n : ℕ) → IsStill (connection_at hall n) (connection_at hall' n)

still_same : (c : ConnectionState) → IsStill c c
still_same c = record { place = refl; given = refl; ended = refl; taken = refl; closed = refl; broken = refl; reads = refl; writes = refl }

all_still : (hall hall' : HallState) → hall'.connections ≡ hall.connections → AreStill hall hall'
all_still hall hall' same = record {
  size = ap length same;
  each = λ n. subst (IsStill (connection_at hall n)) (ap (λ (l : List ConnectionState). slice_index_or l n (new_connection 0 None)) (sym same)) (still_same (connection_at hall n));
}

one_still : (hall : HallState) (n : ℕ) (change : ConnectionState → ConnectionState) → n < length hall.connections → ((c : ConnectionState) → IsStill c (change c)) → AreStill hall (with_connection hall n change)
one_still hall n change inside still = record { size = length-set hall.connections n (change (connection_at hall n)); each = λ m. by_test m (eqb_tells m n) }
  where
    by_test : (m : ℕ) → (((m == n) ≡ true) × (m ≡ n)) ⊎ (((m == n) ≡ false) × (m ≢ n)) → IsStill (connection_at hall m) (connection_at (with_connection hall n change) m)
    by_test m (inl (_, same)) = subst (λ (i : ℕ). IsStill (connection_at hall i) (connection_at (with_connection hall n change) i)) (sym same)
        (subst (IsStill (connection_at hall n)) (sym (get_or-set_same hall.connections n (change (connection_at hall n)) (new_connection 0 None) inside)) (still (connection_at hall n)))
    by_test m (inr (_, other)) = subst (IsStill (connection_at hall m)) (sym (get_or-set_other hall.connections n m (change (connection_at hall n)) (new_connection 0 None) other)) (still_same (connection_at hall m))

pub ready_still : (hall : HallState) (more : Bool) (id : ConnectionId) → IsOpen hall id → AreStill hall (hall_after_wait {E = ℕ} more (Ok (Ready id)) hall)
ready_still hall more id is =
    let s = one_still (with_wait more hall) id.number with_report is.begun (λ c. record { place = refl; given = refl; ended = refl; taken = refl; closed = refl; broken = refl; reads = refl; writes = refl }) in
    record { size = s.size; each = s.each }

pub same_still : (hall hall' : HallState) → hall'.connections ≡ hall.connections → AreStill hall hall'
same_still = all_still

module _ (hall hall' : HallState) (still : AreStill hall hall') where
  pub open_still : (id : ConnectionId) → IsOpen hall id → IsOpen hall' id
  open_still id is = record {
    begun = let b = is.begun in let e = still.size in omega (arith, b, e);
    at_place = (still.each id.number).place ∙ is.at_place;
    not_closed = (still.each id.number).closed ∙ is.not_closed;
  }

  pub matches_after : (seats : List (Option SeatState)) → MatchesSeats hall seats → MatchesSeats hall' seats
  matches_after seats matches = record {
    seated = λ k seat is. let s = matches.seated k seat is in record {
      at_place = s.at_place;
      is_open = open_still seat.id s.is_open;
      unbroken = (still.each seat.id.number).broken ∙ s.unbroken;
      same_end = s.same_end ∙ sym (still.each seat.id.number).ended;
      unspent = s.unspent;
      few_requests = s.few_requests;
    };
    covered = λ n below opened. let c = still.each n in let h = matches.covered n (let e = still.size in omega (arith, e, below)) (sym c.closed ∙ opened) in record {
      seat = h.seat;
      is_there = ap (seat_at seats) c.place ∙ h.is_there;
      same_number = h.same_number;
    };
  }

  module _ {E : Type 0} where
    ends_still : (c c' : ConnectionState) (mine : List (Exchange E)) (rest pending : List ℕ) → IsStill c c' → EndsAfter c mine rest pending → EndsAfter c' mine rest pending
    ends_still c c' mine rest pending s (after_break is) = after_break (s.broken ∙ is)
    ends_still c c' mine rest pending s (after_reply none last) = after_reply none last
    ends_still c c' mine rest pending s (at_end none is empty) = at_end none (s.ended ∙ is) empty

    served_after_one : (c c' : ConnectionState) (mine : List (Exchange E)) → IsStill c c' → IsServed c mine → IsServed c' mine
    served_after_one c c' mine s is = record {
      rest = is.rest;
      pending = is.pending;
      begins = subst (λ (b : Bool). BeginsWithItems 0 c'.given b mine is.rest) (sym s.ended) (subst (λ (l : List ℕ). BeginsWithItems 0 l c.ended mine is.rest) (sym s.given) is.begins);
      wrote = is.wrote ∙ ap (λ (l : List ℕ). l ++ is.pending) (sym s.taken);
      ends = λ closed. ends_still c c' mine is.rest is.pending s (is.ends (sym s.closed ∙ closed));
    }

    holds_after_one : (c c' : ConnectionState) (seat : SeatState) (mine : List (Exchange E)) → IsStill c c' → HoldsRest seat c mine → HoldsRest seat c' mine
    holds_after_one c c' seat mine s is = record {
      rest = is.rest;
      begins = subst (λ (b : Bool). BeginsWithItems 0 c'.given b mine is.rest) (sym s.ended) (subst (λ (l : List ℕ). BeginsWithItems 0 l c.ended mine is.rest) (sym s.given) is.begins);
      held = is.held;
      counted = is.counted;
      wrote = is.wrote ∙ ap (λ (l : List ℕ). l ++ seat.pending) (sym s.taken);
      closing = is.closing;
    }

    pub served_after : (seats : List (Option SeatState)) (all : List (Exchange E)) → HasServed hall seats all → HasServed hall' seats all
    served_after seats all served = record {
      each = λ n below. served_after_one (connection_at hall n) (connection_at hall' n) (exchanges_on n all) (still.each n) (served.each n (let e = still.size in omega (arith, e, below)));
      none_after = λ n beyond. served.none_after n (let e = still.size in omega (arith, e, beyond));
      seated = λ k seat is. holds_after_one (connection_at hall seat.id.number) (connection_at hall' seat.id.number) seat (exchanges_on seat.id.number all) (still.each seat.id.number) (served.seated k seat is);
      one_place = λ one. let o = served.one_place one in record { in_turn = o.in_turn; of_last = λ k seat is. o.of_last k seat is ∙ sym still.size };
    }
