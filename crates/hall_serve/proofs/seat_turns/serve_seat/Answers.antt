use Rattle.std.proofs.Common.{◌+◌, None, refl, sym, ap, subst, ◌∙◌}
use Rattle.halls.specs.StateChanges.{hall_after_close}
use Rattle.halls.specs.declared.hall.ConnectionId.{ConnectionId}
use Rattle.http_serve.specs.ReplyBytes.{StepsInBytes}
use Rattle.hall_serve.specs.Seats.{requests_left_at}
use Rattle.hall_serve.specs.inner.SeatTurns.{answers, failures_in, found_end, passes, replied, seat_after}
use Rattle.hall_serve.proofs.RequestsLeft.{takes_answered, takes_one, takes_passed}
use Rattle.hall_serve.proofs.SameSeats.{passes_before}
use Rattle.hall_serve.proofs.SeatCalls.{closes_now, no_bytes, tried_none}
use Rattle.hall_serve.proofs.seat_turns.serve_seat.Goals as goal

pub returns-then-pending_len-gt0-clause-takes_on : goal.returns-then-pending_len-gt0-clause-takes_on
returns-then-pending_len-gt0-clause-takes_on g c =
    takes_passed g.M.Machine.takes g.met.M.Machine.takes_fewer c.args.machine.now c.args.seat.now (seat_after c.write_pending.result c.write_pending.new.seat) _ _ c.write_pending.ensures.passes.passes

pub returns-then-is_closing-clause-serves : goal.returns-then-is_closing-clause-serves
returns-then-is_closing-clause-serves g c =
    let none = no_bytes c.args.seat.now.pending c.pending_len.result c.pending_len.ensures.exact c.if-pending_len-gt0.false in
    let is = c.close.ensures.closes ∙ ap (λ (id : ConnectionId). hall_after_close id.number (g.H.Hall.state c.args.hall.now)) c.id.ensures.exact in
    passes (closes_now c.args.seat.now (g.H.Hall.state c.args.hall.now) c.requires.seated.1.is_open (g.H.Hall.state c.close.new.self) is none (replied none (sym c.is_closing.ensures.exact ∙ c.if-is_closing.true))) refl (g.met.W.Watchers.none _)

pub answer_first-requires-clause-room_left : goal.answer_first-requires-clause-room_left
answer_first-requires-clause-room_left g c =
    let goes_on = sym c.is_closing.ensures.exact ∙ c.if-is_closing.false in
    takes_one g.M.Machine.takes g.met.M.Machine.takes_fewer c.args.machine.now c.args.seat.now goes_on (c.requires.seated.1.few_requests goes_on) c.requires.room_left

pub returns-in-Answered-clause-serves : goal.returns-in-Answered-clause-serves
returns-in-Answered-clause-serves g c =
    answers c.answer_first.new.seat refl c.in-Answered.ensures.answers refl

pub returns-in-Answered-clause-takes_on : goal.returns-in-Answered-clause-takes_on
returns-in-Answered-clause-takes_on g c =
    let goes_on = sym c.is_closing.ensures.exact ∙ c.if-is_closing.false in
    takes_answered g.M.Machine.takes g.met.M.Machine.takes_fewer (StepsInBytes g.M.Machine.steps) g.W.Watchers.keeps (record { machine = c.args.machine.now; seat = c.args.seat.now; watchers = c.args.watchers.now }) (record { machine = c.answer_first.new.machine; seat = c.answer_first.new.seat; watchers = c.answer_first.new.watchers })
    (c.requires.seated.1.few_requests goes_on) c.in-Answered.ensures.answers c.answer_first.ensures.takes_one_fewer

pub returns-in-Open-clause-serves : goal.returns-in-Open-clause-serves
returns-in-Open-clause-serves g c =
    passes (passes_before c.args.seat.now c.answer_first.new.seat c.in-Open.ensures.answers.0.same_seat 1 (failures_in c.read_more.result) (seat_after c.read_more.result c.read_more.new.seat) (g.H.Hall.state c.args.hall.now) (g.H.Hall.state c.read_more.new.hall) c.read_more.ensures.passes) c.in-Open.ensures.answers.0.same_machine c.in-Open.ensures.answers.0.kept

pub returns-in-Open-clause-takes_on : goal.returns-in-Open-clause-takes_on
returns-in-Open-clause-takes_on g c =
    λ n takes. subst (λ (m : g.row.M.Denot). g.M.Machine.takes m (requests_left_at (seat_after c.read_more.result c.read_more.new.seat) + n)) (sym c.in-Open.ensures.answers.0.same_machine)
    (takes_passed g.M.Machine.takes g.met.M.Machine.takes_fewer c.args.machine.now c.args.seat.now (seat_after c.read_more.result c.read_more.new.seat) _ _ (passes_before c.args.seat.now c.answer_first.new.seat c.in-Open.ensures.answers.0.same_seat 1 (failures_in c.read_more.result) (seat_after c.read_more.result c.read_more.new.seat) (g.H.Hall.state c.args.hall.now) (g.H.Hall.state c.read_more.new.hall) c.read_more.ensures.passes).passes n takes)

pub returns-in-End-clause-serves : goal.returns-in-End-clause-serves
returns-in-End-clause-serves g c =
    let none = no_bytes c.args.seat.now.pending c.pending_len.result c.pending_len.ensures.exact c.if-pending_len-gt0.false in
    let goes_on = sym c.is_closing.ensures.exact ∙ c.if-is_closing.false in
    let e = c.in-End.ensures.answers in
    let is = c.close-in-End.ensures.closes ∙ ap (λ (id : ConnectionId). hall_after_close id.number (g.H.Hall.state c.args.hall.now)) (c.id-in-End.ensures.exact ∙ e.2) in
    passes (closes_now c.args.seat.now (g.H.Hall.state c.args.hall.now) c.requires.seated.1.is_open (g.H.Hall.state c.close-in-End.new.self) is none (found_end none goes_on (sym c.requires.seated.1.same_end ∙ e.3) e.4)) e.0 e.1

pub returns-in-End-clause-takes_on : goal.returns-in-End-clause-takes_on
returns-in-End-clause-takes_on g c =
    let none = no_bytes c.args.seat.now.pending c.pending_len.result c.pending_len.ensures.exact c.if-pending_len-gt0.false in
    let goes_on = sym c.is_closing.ensures.exact ∙ c.if-is_closing.false in
    let e = c.in-End.ensures.answers in
    let is = c.close-in-End.ensures.closes ∙ ap (λ (id : ConnectionId). hall_after_close id.number (g.H.Hall.state c.args.hall.now)) (c.id-in-End.ensures.exact ∙ e.2) in
    λ n takes. subst (λ (m : g.row.M.Denot). g.M.Machine.takes m (requests_left_at None + n)) (sym e.0) (takes_passed g.M.Machine.takes g.met.M.Machine.takes_fewer c.args.machine.now c.args.seat.now None _ _ (closes_now c.args.seat.now (g.H.Hall.state c.args.hall.now) c.requires.seated.1.is_open (g.H.Hall.state c.close-in-End.new.self) is none (found_end none goes_on (sym c.requires.seated.1.same_end ∙ e.3) e.4)).passes n takes)

pub returns-in-NoMemory-clause-serves : goal.returns-in-NoMemory-clause-serves
returns-in-NoMemory-clause-serves g c =
    let none = no_bytes c.args.seat.now.pending c.pending_len.result c.pending_len.ensures.exact c.if-pending_len-gt0.false in
    let a = c.in-NoMemory.ensures.answers in
    passes (tried_none c.args.seat.now (g.H.Hall.state c.args.hall.now) c.requires.seated.1.is_open c.answer_first.new.seat (g.H.Hall.state c.defer.new.self) c.defer.ensures.unchanged none a.same_seat) a.same_machine a.kept
