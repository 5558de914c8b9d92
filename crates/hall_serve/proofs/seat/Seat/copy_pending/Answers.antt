use Rattle.std.proofs.Common.{◌≡◌, ◌≤◌, ◌-◌, List, ℕ, Option, [], ◌++◌, length, take, drop, sym, ap, ◌∙◌, arith, length-drop}
use Rattle.std.specs.Option.{option_map_or}
use Rattle.std.proofs.lemmas.List.{take_rest}
use Rattle.reply_text.specs.ReplyHeads.{SentReply, reply_bytes}
use Rattle.hall_serve.specs.Seats.{SeatState}
use Rattle.hall_serve.proofs.PendingBytes.{body_copied, head_copied}
use Rattle.hall_serve.proofs.seat.Seat.copy_pending.Goals as goal

pub returns-then-self-head-clause-copied : goal.returns-then-self-head-clause-copied
returns-then-self-head-clause-copied c =
    let reply = c.in-Some.reply in
    let written = c.self.inside.written in
    let pending : c.args.self.now.pending ≡ drop written (reply.head ++ reply.body) =
    ap (λ (s : SeatState). s.pending) (sym c.self.view_is) ∙ ap (λ (o : Option SentReply). drop written (option_map_or reply_bytes o [])) c.in-Some.is in
    body_copied reply.head reply.body c.head-head.result.now c.body.result.now c.args.self.now.pending c.copy_front.new.buf written c.copy_front.result c.head-head.ensures.exact c.body.ensures.exact c.if-self-head.true
    pending _ (take_rest c.body.result.now (written - length c.head-head.result.now)) c.copy_front.ensures.copied

pub returns-clause-copied : goal.returns-clause-copied
returns-clause-copied c =
    let reply = c.in-Some.reply in
    let written = c.self.inside.written in
    let first = c.copy_front-from_head in
    let more = c.copy_front-2 in
    let head = c.head-head.result.now in
    let pending : c.args.self.now.pending ≡ drop written (reply.head ++ reply.body) =
    ap (λ (s : SeatState). s.pending) (sym c.self.view_is) ∙ ap (λ (o : Option SentReply). drop written (option_map_or reply_bytes o [])) c.in-Some.is in
    let within : written ≤ length head = let t = c.if-self-head.false in omega (arith, t) in
    let room : List ℕ = take (length first.new.buf - first.result) (drop first.result first.new.buf) in
    let left : length room ≡ length c.args.buf.now - first.result =
    let e = ap length (take_rest first.new.buf first.result) in let d = length-drop first.result first.new.buf in let s = first.auto.buf in omega (arith, e, d, s) in
    head_copied reply.head reply.body head c.body-2.result.now c.args.buf.now first.new.buf more.new.buf _ room c.args.self.now.pending written first.result more.result
    c.head-head.ensures.exact c.body-2.ensures.exact within pending _ (take_rest head written) first.ensures.as_many first.auto.buf first.ensures.copied left more.auto.buf more.ensures.as_many more.ensures.copied
