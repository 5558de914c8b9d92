use Rattle.std.proofs.Common.{◌≡◌, ℕ, None, length}
use Rattle.hall_serve.specs.Seats.{seat_at}
use Rattle.hall_serve.proofs.seats.free_places.Given as goal

abbrev pub invariant-places : goal.invariant-places
invariant-places l = record {
  as_many : length l.places.items ≡ l._place;
  all_free : (k : ℕ) → seat_at l.places.items k ≡ None;
}
