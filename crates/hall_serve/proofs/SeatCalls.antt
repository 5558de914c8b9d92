-- The calls on a hall that a seat's turn makes, as what passed over its connection.
use Rattle.std.proofs.Common.{◌≡◌, ℕ, ◌+◌, ◌<◌, ◌≤◌, ◌==◌, inl, inr, Bool, true, false, List, [], ◌∷◌, ◌++◌, length, take, drop, None, Some, Ok, Err, refl, sym, ap, subst, ◌∙◌, if◌then◌else◌, arith}
use Rattle.std.proofs.lemmas.List.{get_or-set_same, length-set, set-get_or}
use Rattle.halls.specs.CallResults.{IsOpen}
use Rattle.halls.specs.HallState.{ConnectionState, HallState, connection_at, new_connection}
use Rattle.halls.specs.StateChanges.{hall_after_close, hall_after_read, hall_after_write, with_break, with_close, with_read_bytes}
use Rattle.halls.specs.declared.hall.ConnectionId.{ConnectionId}
use Rattle.halls.specs.declared.hall.Progress.TheVariants.{Moved, Blocked}
use Rattle.http_feed.specs.Feeds.{with_bytes}
use Rattle.http_wire.specs.ConnectionItems.{HasNoCompleteItem}
use Rattle.hall_serve.specs.Seats.{SeatState}
use Rattle.hall_serve.specs.ServedHalls.{TriesInOrder}
use Rattle.hall_serve.specs.inner.SeatTurns.{IsSameSeat, IsSeatAfter, IsToClose, PassesInHall, broke, closed, nothing, set_connection, some_read, some_written, with_tries}
use Rattle.hall_serve.proofs.ListPlaces.{set-set}

-- a connection that changed is still open
pub open_set : (hall : HallState) (id : ConnectionId) (line' : ConnectionState) → IsOpen hall id → line'.place ≡ (connection_at hall id.number).place → line'.closed ≡ (connection_at hall id.number).closed → IsOpen (set_connection hall id.number line') id
open_set hall id line' is place still =
    let same : connection_at (set_connection hall id.number line') id.number ≡ line' = get_or-set_same hall.connections id.number line' (new_connection 0 None) is.begun in
    record {
      begun = let e = length-set hall.connections id.number line' in let b = is.begun in omega (arith, e, b);
      at_place = ap (λ (c : ConnectionState). c.place) same ∙ place ∙ is.at_place;
      not_closed = ap (λ (c : ConnectionState). c.closed) same ∙ still ∙ is.not_closed;
    }

-- a change of a connection, and then its close
pub close_set : (hall : HallState) (n : ℕ) (line' : ConnectionState) → n < length hall.connections → hall_after_close n (set_connection hall n line') ≡ set_connection hall n (with_close line')
close_set hall n line' inside =
    ap (λ (c : ConnectionState). set_connection (set_connection hall n line') n (with_close c)) (get_or-set_same hall.connections n line' (new_connection 0 None) inside)
    ∙ ap (λ (l : List ConnectionState). record hall { connections = l }) (set-set hall.connections n line' (with_close line'))

pub same_seat : (seat : SeatState) → IsSameSeat seat seat
same_seat seat = record { same_id = refl; reader = refl; pending = refl; same_closing = refl; ended = refl }

pub no_bytes : (xs : List ℕ) (n : ℕ) → n ≡ length xs → n ≤ 0 → xs ≡ []
no_bytes [] n is none = refl
no_bytes (x ∷ xs) n is none = absurd (let no : ⊥ = omega (arith, is, none) in no)

-- whether a connection is closed, as a number
abbrev pub closes_of : Bool → ℕ
closes_of is_closed = if is_closed then 1 else 0

module _ (old : SeatState) (hall : HallState) (opened : IsOpen hall old.id) where
  abbrev n : ℕ
  n = old.id.number

  abbrev c : ConnectionState
  c = connection_at hall n

  -- an open connection isn't closed, as a number
  open_none : closes_of c.closed ≡ 0
  open_none = ap closes_of opened.not_closed

  one_write : (r w k f : ℕ) → 1 + (r + w + k) ≤ r + (w + 1) + k + f
  one_write r w k f = omega arith

  one_read : (r w k f : ℕ) → 1 + (r + w + k) ≤ (r + 1) + w + k + f
  one_read r w k f = omega arith

  one_close : (r w r' w' k f : ℕ) → k ≡ 0 → r ≤ r' → w ≤ w' → 1 + (r + w + k) ≤ r' + w' + 1 + f
  one_close r w r' w' k f none more_reads more_writes = omega (arith, none, more_reads, more_writes)

  -- in order: a write was tried
  write_tried : (line' : ConnectionState) → line'.writes ≡ c.writes + 1 → line'.reads ≡ c.reads → TriesInOrder old 1 c line'
  write_tried line' writes reads = record { writes = λ _. writes; reads = inl reads }

  -- or nothing is pending
  none_tried : (line' : ConnectionState) → old.pending ≡ [] → line'.reads ≡ c.reads → TriesInOrder old 1 c line'
  none_tried line' none reads = record { writes = λ some. absurd (let e = ap length none in let no : ⊥ = omega (arith, e, some) in no); reads = inl reads }

  read_tried : (line' : ConnectionState) → old.pending ≡ [] → HasNoCompleteItem old.feed.reader.held → TriesInOrder old 1 c line'
  read_tried line' none waits = record { writes = λ some. absurd (let e = ap length none in let no : ⊥ = omega (arith, e, some) in no); reads = inr (none, waits) }

  pub wrote_some : (new : SeatState) (hall' : HallState) (piece : List ℕ) (count : ℕ) → hall' ≡ hall_after_write {E = ℕ} n piece (Ok (Moved count)) hall → take count piece ≡ take count old.pending
      → IsSeatAfter old old.feed.reader (drop count old.pending) old.ended new → PassesInHall 1 0 old (Some new) hall hall'
  wrote_some new hall' piece count is same after = record {
    connection = record (with_tries c.reads (c.writes + 1) c) { taken = c.taken ++ take count old.pending };
    passes = some_written count c.reads (c.writes + 1) new refl after refl;
    only_that = is ∙ ap (λ (l : List ℕ). set_connection hall n (record (with_tries c.reads (c.writes + 1) c) { taken = c.taken ++ l })) same;
    same_reports = refl;
    tried = one_write c.reads c.writes (if c.closed then 1 else 0) 0;
    in_order = write_tried (record (with_tries c.reads (c.writes + 1) c) { taken = c.taken ++ take count old.pending }) refl refl;
  }

  pub wrote_none : (new : SeatState) (hall' : HallState) (piece : List ℕ) → hall' ≡ hall_after_write {E = ℕ} n piece (Ok Blocked) hall → IsSameSeat old new → PassesInHall 1 0 old (Some new) hall hall'
  wrote_none new hall' piece is after = record {
    connection = with_tries c.reads (c.writes + 1) c;
    passes = nothing c.reads (c.writes + 1) new refl after refl;
    only_that = is;
    same_reports = refl;
    tried = one_write c.reads c.writes (if c.closed then 1 else 0) 0;
    in_order = write_tried (with_tries c.reads (c.writes + 1) c) refl refl;
  }

  pub write_failed : (mid hall' : HallState) (piece : List ℕ) → mid ≡ hall_after_write {E = ℕ} n piece (Err 0) hall → hall' ≡ hall_after_close n mid → PassesInHall 1 0 old None hall hall'
  write_failed mid hall' piece is shut = record {
    connection = with_close (record (with_tries c.reads (c.writes + 1) c) { broken = true });
    passes = closed c.reads (c.writes + 1) true refl (broke refl) refl;
    only_that = shut ∙ ap (hall_after_close n) is ∙ close_set hall n (with_break (record c { writes = c.writes + 1 })) opened.begun;
    same_reports = refl;
    tried = one_close c.reads c.writes c.reads (c.writes + 1) (if c.closed then 1 else 0) 0 open_none (omega arith) (omega arith);
    in_order = write_tried (with_close (record (with_tries c.reads (c.writes + 1) c) { broken = true })) refl refl;
  }

  pub open_after_write : (mid : HallState) (piece : List ℕ) → mid ≡ hall_after_write {E = ℕ} n piece (Err 0) hall → IsOpen mid old.id
  open_after_write mid piece is = subst (λ (h : HallState). IsOpen h old.id) (sym is) (open_set hall old.id (with_break (record c { writes = c.writes + 1 })) opened refl refl)

  pub read_some : (new : SeatState) (hall' : HallState) (buf : List ℕ) (count : ℕ) → hall' ≡ hall_after_read {E = ℕ} n buf (Ok (Moved count)) hall → old.ended ≡ false
      → old.pending ≡ [] → HasNoCompleteItem old.feed.reader.held
      → IsSeatAfter old (with_bytes old.feed.reader (take count buf)) old.pending (count == 0) new → PassesInHall 1 0 old (Some new) hall hall'
  read_some new hall' buf count is not_ended none waits after = record {
    connection = with_read_bytes count buf (with_tries (c.reads + 1) c.writes c);
    passes = some_read count buf (c.reads + 1) c.writes new refl not_ended after refl;
    only_that = is;
    same_reports = refl;
    tried = one_read c.reads c.writes (if c.closed then 1 else 0) 0;
    in_order = read_tried (with_read_bytes count buf (with_tries (c.reads + 1) c.writes c)) none waits;
  }

  pub read_none : (new : SeatState) (hall' : HallState) (buf : List ℕ) → hall' ≡ hall_after_read {E = ℕ} n buf (Ok Blocked) hall → old.pending ≡ [] → HasNoCompleteItem old.feed.reader.held
      → IsSameSeat old new → PassesInHall 1 0 old (Some new) hall hall'
  read_none new hall' buf is none waits after = record {
    connection = with_tries (c.reads + 1) c.writes c;
    passes = nothing (c.reads + 1) c.writes new refl after refl;
    only_that = is;
    same_reports = refl;
    tried = one_read c.reads c.writes (if c.closed then 1 else 0) 0;
    in_order = read_tried (with_tries (c.reads + 1) c.writes c) none waits;
  }

  pub read_failed : (mid hall' : HallState) (buf : List ℕ) → mid ≡ hall_after_read {E = ℕ} n buf (Err 0) hall → hall' ≡ hall_after_close n mid → old.pending ≡ [] → HasNoCompleteItem old.feed.reader.held
      → PassesInHall 1 0 old None hall hall'
  read_failed mid hall' buf is shut none waits = record {
    connection = with_close (record (with_tries (c.reads + 1) c.writes c) { broken = true });
    passes = closed (c.reads + 1) c.writes true refl (broke refl) refl;
    only_that = shut ∙ ap (hall_after_close n) is ∙ close_set hall n (with_break (record c { reads = c.reads + 1 })) opened.begun;
    same_reports = refl;
    tried = one_close c.reads c.writes (c.reads + 1) c.writes (if c.closed then 1 else 0) 0 open_none (omega arith) (omega arith);
    in_order = read_tried (with_close (record (with_tries (c.reads + 1) c.writes c) { broken = true })) none waits;
  }

  pub open_after_read : (mid : HallState) (buf : List ℕ) → mid ≡ hall_after_read {E = ℕ} n buf (Err 0) hall → IsOpen mid old.id
  open_after_read mid buf is = subst (λ (h : HallState). IsOpen h old.id) (sym is) (open_set hall old.id (with_break (record c { reads = c.reads + 1 })) opened refl refl)

  -- out of memory
  pub tried_none : (new : SeatState) (hall' : HallState) → hall' ≡ hall → old.pending ≡ [] → IsSameSeat old new → PassesInHall 1 1 old (Some new) hall hall'
  tried_none new hall' is none after = record {
    connection = c;
    passes = nothing c.reads c.writes new refl after refl;
    only_that = is ∙ ap (λ (l : List ConnectionState). record hall { connections = l }) (sym (set-get_or hall.connections n (new_connection 0 None)));
    same_reports = refl;
    tried = omega arith;
    in_order = none_tried c none refl;
  }

  pub closes_now : (hall' : HallState) → hall' ≡ hall_after_close n hall → old.pending ≡ [] → IsToClose old c → PassesInHall 1 0 old None hall hall'
  closes_now hall' is none why = record {
    connection = with_close c;
    passes = closed c.reads c.writes c.broken refl why refl;
    only_that = is;
    same_reports = refl;
    tried = one_close c.reads c.writes c.reads c.writes (if c.closed then 1 else 0) 0 open_none (omega arith) (omega arith);
    in_order = none_tried (with_close c) none refl;
  }

-- the connection's time was up
pub closes_late : (old : SeatState) (hall hall' : HallState) → IsOpen hall old.id → hall' ≡ set_connection hall old.id.number (with_close (with_break (connection_at hall old.id.number))) → PassesInHall 0 0 old None hall hall'
closes_late old hall hall' opened is =
    let c : ConnectionState = connection_at hall old.id.number in
    record {
      connection = with_close (with_break c);
      passes = closed c.reads c.writes true refl (broke refl) refl;
      only_that = is;
      same_reports = refl;
      tried = let none = ap closes_of opened.not_closed in omega (arith, none);
      in_order = record { writes = λ _. (let e : c.writes ≡ c.writes + 0 = omega arith in e); reads = inl refl };
    }
