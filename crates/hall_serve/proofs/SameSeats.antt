-- A seat of which only the memory of its feed changed, before something passes over its connection.
use Rattle.std.proofs.Common.{◌≡◌, ℕ, ◌⊎◌, inl, inr, Bool, List, [], ◌++◌, length, take, drop, Option, refl, sym, ap, subst, ◌∙◌, arith}
use Rattle.halls.specs.HallState.{ConnectionState, HallState, connection_at}
use Rattle.halls.specs.declared.hall.ConnectionId.{ConnectionId}
use Rattle.http_feed.specs.Feeds.{with_bytes}
use Rattle.http_wire.specs.ConnectionItems.{HasNoCompleteItem}
use Rattle.http_wire.specs.NextRequests.{RequestReaderState}
use Rattle.hall_serve.specs.Seats.{SeatState}
use Rattle.hall_serve.specs.ServedHalls.{TriesInOrder, tries}
use Rattle.hall_serve.specs.inner.SeatTurns.{IsSameSeat, IsSeatAfter, IsToClose, PassesBytes, PassesInHall, broke, closed, found_end, nothing, replied, set_connection, some_read, some_written, with_tries}

module _ (old mid : SeatState) (same : IsSameSeat old mid) where
  after_before : (reader reader' : RequestReaderState) (pending pending' : List ℕ) (ended ended' : Bool) (seat : SeatState) → reader' ≡ reader → pending' ≡ pending → ended' ≡ ended → IsSeatAfter mid reader' pending' ended' seat → IsSeatAfter old reader pending ended seat
  after_before reader reader' pending pending' ended ended' seat r p e after = record {
    same_id = after.same_id ∙ same.same_id;
    reader = after.reader ∙ r;
    pending = after.pending ∙ p;
    same_closing = after.same_closing ∙ same.same_closing;
    ended = after.ended ∙ e;
  }

  close_before : (c : ConnectionState) → IsToClose mid c → IsToClose old c
  close_before c (broke is) = broke is
  close_before c (replied none last) = replied (sym same.pending ∙ none) (sym same.same_closing ∙ last)
  close_before c (found_end none goes_on is empty) = found_end (sym same.pending ∙ none) (sym same.same_closing ∙ goes_on) is (ap (λ (r : RequestReaderState). r.held) (sym same.reader) ∙ empty)

  passed_before : (new : Option SeatState) (c c' : ConnectionState) → PassesBytes mid new c c' → PassesBytes old new c c'
  passed_before new c c' (nothing reads writes seat now after is) = nothing reads writes seat now (after_before _ _ _ _ _ _ seat same.reader same.pending same.ended after) is
  passed_before new c c' (some_read count buf reads writes seat now not_ended after is) =
      some_read count buf reads writes seat now (sym same.ended ∙ not_ended) (after_before _ _ _ _ _ _ seat (ap (λ (r : RequestReaderState). with_bytes r (take count buf)) same.reader) same.pending refl after) is
  passed_before new c c' (some_written count reads writes seat now after is) =
      some_written count reads writes seat now (after_before _ _ _ _ _ _ seat same.reader (ap (λ (l : List ℕ). drop count l) same.pending) same.ended after) (is ∙ ap (λ (l : List ℕ). record (with_tries reads writes c) { taken = c.taken ++ take count l }) same.pending)
  passed_before new c c' (closed reads writes is_broken now why is) = closed reads writes is_broken now (close_before (record c { broken = is_broken }) why) is

  order_before : (ready : ℕ) (c c' : ConnectionState) → TriesInOrder mid ready c c' → TriesInOrder old ready c c'
  order_before ready c c' order = record { writes = λ some. order.writes (let e = ap length same.pending in omega (arith, e, some)); reads = either order.reads }
    where
      either : (c'.reads ≡ c.reads) ⊎ ((mid.pending ≡ []) × HasNoCompleteItem mid.feed.reader.held) → (c'.reads ≡ c.reads) ⊎ ((old.pending ≡ []) × HasNoCompleteItem old.feed.reader.held)
      either (inl e) = inl e
      either (inr (none, waits)) = inr (sym same.pending ∙ none, subst HasNoCompleteItem (ap (λ (r : RequestReaderState). r.held) same.reader) waits)

  pub passes_before : (ready failures : ℕ) (new : Option SeatState) (hall hall' : HallState) → PassesInHall ready failures mid new hall hall' → PassesInHall ready failures old new hall hall'
  passes_before ready failures new hall hall' p = record {
    connection = p.connection;
    passes = subst (λ (id : ConnectionId). PassesBytes old new (connection_at hall id.number) p.connection) same.same_id (passed_before new (connection_at hall mid.id.number) p.connection p.passes);
    only_that = p.only_that ∙ ap (λ (id : ConnectionId). set_connection hall id.number p.connection) same.same_id;
    same_reports = p.same_reports ∙ ap (λ (id : ConnectionId). (connection_at hall id.number).reports) same.same_id;
    tried = let e = ap (λ (id : ConnectionId). tries (connection_at hall id.number)) same.same_id in let t = p.tried in omega (arith, e, t);
    in_order = subst (λ (id : ConnectionId). TriesInOrder old ready (connection_at hall id.number) p.connection) same.same_id (order_before ready (connection_at hall mid.id.number) p.connection p.in_order);
  }
