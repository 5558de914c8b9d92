use Rattle.std.proofs.Common.{◌≤◌, ◌==◌, ℕ, List, Ok, Err, length, take, ap, subst, ◌∙◌}
use Rattle.std.proofs.lemmas.List.{length-take-le}
use Rattle.halls.specs.HallState.{HallState}
use Rattle.halls.specs.StateChanges.{hall_after_close, hall_after_read}
use Rattle.halls.specs.declared.hall.ConnectionId.{ConnectionId}
use Rattle.halls.specs.declared.hall.Progress.TheVariants.{Moved, Blocked}
use Rattle.http_feed.specs.Feeds.{with_bytes}
use Rattle.hall_serve.specs.inner.SeatTurns.{IsSeatAfter}
use Rattle.hall_serve.proofs.SeatCalls.{read_failed, read_none, read_some}
use Rattle.hall_serve.proofs.seat_turns.read_into.Goals as goal

pub returns-in-Ok-Moved : goal.returns-in-Ok-Moved
returns-in-Ok-Moved g c =
    let hall : HallState = g.H.Hall.state c.args.hall.now in
    let seat = c.args.seat.now in
    let buf : List ℕ = c.read.new.buf in
    let count : ℕ = c.in-Ok-Moved.count in
    let within : count ≤ length buf = (rw c.in-Ok-Moved.field-0-is at c.in-Ok-Moved.ensures.next_bytes).0 in
    record {
      passes = read_some seat hall c.requires.open c.note_read.new.self (g.H.Hall.state c.read.new.self) buf count
          ((rw c.in-Ok-Moved.field-0-is at c.in-Ok-Moved.ensures.only_reads) ∙ ap (λ (id : ConnectionId). hall_after_read {E = ℕ} id.number buf (Ok (Moved count)) hall) c.id.ensures.exact)
          c.requires.not_ended c.requires.none_pending c.requires.waits
          (subst (λ (n : ℕ). IsSeatAfter c.args.seat.now (with_bytes c.args.seat.now.feed.reader (take count buf)) c.args.seat.now.pending (n == 0) c.note_read.new.self) (length-take-le count buf within) c.note_read.ensures.exact);
    }

pub returns-then-release : goal.returns-then-release
returns-then-release g c =
    let hall : HallState = g.H.Hall.state c.args.hall.now in
    record {
      passes = read_none c.args.seat.now hall c.requires.open c.release.new.self (g.H.Hall.state c.rest.new.self) c.read.new.buf
          (c.rest.ensures.unchanged ∙ (rw c.in-Ok-Blocked.field-0-is at c.in-Ok-Blocked.ensures.only_reads) ∙ ap (λ (id : ConnectionId). hall_after_read {E = ℕ} id.number c.read.new.buf (Ok Blocked) hall) c.id.ensures.exact)
          c.requires.none_pending c.requires.waits c.release.ensures.same_seat;
    }

pub returns-else-release : goal.returns-else-release
returns-else-release g c =
    let hall : HallState = g.H.Hall.state c.args.hall.now in
    record {
      passes = read_none c.args.seat.now hall c.requires.open c.release.new.self (g.H.Hall.state c.read.new.self) c.read.new.buf
          ((rw c.in-Ok-Blocked.field-0-is at c.in-Ok-Blocked.ensures.only_reads) ∙ ap (λ (id : ConnectionId). hall_after_read {E = ℕ} id.number c.read.new.buf (Ok Blocked) hall) c.id.ensures.exact)
          c.requires.none_pending c.requires.waits c.release.ensures.same_seat;
    }

pub returns-in-Err : goal.returns-in-Err
returns-in-Err g c =
    let hall : HallState = g.H.Hall.state c.args.hall.now in
    record {
      passes = read_failed c.args.seat.now hall c.requires.open (g.H.Hall.state c.read.new.self) (g.H.Hall.state c.close.new.self) c.read.new.buf
          (c.in-Err.ensures.only_reads ∙ ap (λ (id : ConnectionId). hall_after_read {E = ℕ} id.number c.read.new.buf (Err 0) hall) c.id.ensures.exact)
          (c.close.ensures.closes ∙ ap (λ (id : ConnectionId). hall_after_close id.number (g.H.Hall.state c.read.new.self)) c.id-in-Err.ensures.exact)
          c.requires.none_pending c.requires.waits;
    }
