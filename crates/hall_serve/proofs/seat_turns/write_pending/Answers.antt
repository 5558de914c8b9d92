use Rattle.std.proofs.Common.{◌≤◌, ℕ, List, Ok, Err, length, take, ap, ◌∙◌, arith}
use Rattle.std.proofs.lemmas.List.{length-take-le}
use Rattle.halls.specs.HallState.{HallState}
use Rattle.halls.specs.StateChanges.{hall_after_close, hall_after_write}
use Rattle.halls.specs.declared.hall.ConnectionId.{ConnectionId}
use Rattle.halls.specs.declared.hall.Progress.TheVariants.{Moved, Blocked}
use Rattle.hall_serve.proofs.PendingBytes.{piece_front}
use Rattle.hall_serve.proofs.SeatCalls.{same_seat, write_failed, wrote_none, wrote_some}
use Rattle.hall_serve.proofs.seat_turns.write_pending.Goals as goal

pub returns-in-Ok-Moved : goal.returns-in-Ok-Moved
returns-in-Ok-Moved g c =
    let hall : HallState = g.H.Hall.state c.args.hall.now in
    let most : ℕ = c.copy_pending-count.result in
    let piece : List ℕ = take most c.copy_pending-count.new.buf in
    let count : ℕ = c.in-Ok-Moved.count in
    let room : most ≤ length c.copy_pending-count.new.buf = let m = c.copy_pending-count.ensures.as_many in let s = c.copy_pending-count.auto.buf in omega (arith, m, s) in
    let moved : count ≤ length piece = (rw c.in-Ok-Moved.field-0-is at c.in-Ok-Moved.ensures.within_piece).1 in
    let within : count ≤ most = let l = length-take-le most c.copy_pending-count.new.buf room in omega (arith, l, moved) in
    record {
      passes = wrote_some c.args.seat.now hall c.requires.open c.note_written.new.self (g.H.Hall.state c.write.new.self) piece count
          ((rw c.in-Ok-Moved.field-0-is at c.in-Ok-Moved.ensures.only_writes) ∙ ap (λ (id : ConnectionId). hall_after_write {E = ℕ} id.number piece (Ok (Moved count)) hall) c.id.ensures.exact)
          (piece_front count most c.copy_pending-count.new.buf c.args.seat.now.pending within c.copy_pending-count.ensures.copied)
          c.note_written.ensures.fewer_pending;
    }

pub returns-in-Ok-Blocked : goal.returns-in-Ok-Blocked
returns-in-Ok-Blocked g c =
    let hall : HallState = g.H.Hall.state c.args.hall.now in
    let piece : List ℕ = take c.copy_pending-count.result c.copy_pending-count.new.buf in
    record {
      passes = wrote_none c.args.seat.now hall c.requires.open c.args.seat.now (g.H.Hall.state c.write.new.self) piece
          ((rw c.in-Ok-Blocked.field-0-is at c.in-Ok-Blocked.ensures.only_writes) ∙ ap (λ (id : ConnectionId). hall_after_write {E = ℕ} id.number piece (Ok Blocked) hall) c.id.ensures.exact)
          (same_seat c.args.seat.now);
    }

pub returns-in-Err : goal.returns-in-Err
returns-in-Err g c =
    let hall : HallState = g.H.Hall.state c.args.hall.now in
    let piece : List ℕ = take c.copy_pending-count.result c.copy_pending-count.new.buf in
    record {
      passes = write_failed c.args.seat.now hall c.requires.open (g.H.Hall.state c.write.new.self) (g.H.Hall.state c.close.new.self) piece
          (c.in-Err.ensures.only_writes ∙ ap (λ (id : ConnectionId). hall_after_write {E = ℕ} id.number piece (Err 0) hall) c.id.ensures.exact)
          (c.close.ensures.closes ∙ ap (λ (id : ConnectionId). hall_after_close id.number (g.H.Hall.state c.write.new.self)) c.id-in-Err.ensures.exact);
    }
