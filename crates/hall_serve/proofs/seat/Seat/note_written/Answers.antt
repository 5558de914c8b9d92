use Rattle.std.proofs.Common.{◌≡◌, ℕ, ◌+◌, ◌-◌, List, [], length, drop, sym, ap, ◌∙◌, arith, length-drop}
use Rattle.std.specs.Option.{option_map_or}
use Rattle.std.proofs.lemmas.List.{drop-drop}
use Rattle.reply_text.specs.ReplyHeads.{reply_bytes}
use Rattle.hall_serve.specs.Seats.{SeatState}
use Rattle.hall_serve.proofs.seat.Seat.note_written.Goals as goal

pub overflow_add-sum : goal.overflow_add-sum
overflow_add-sum c =
    let bytes : List ℕ = option_map_or reply_bytes c.self.inside.reply [] in
    let left : length c.args.self.now.pending ≡ length bytes - c.self.inside.written = ap (λ (s : SeatState). length s.pending) (sym c.self.view_is) ∙ length-drop c.self.inside.written bytes in
    omega (arith, left, c.reply_len-len.ensures.exact, c.requires, c.self.invariant)

pub returns : goal.returns
returns c =
    let bytes : List ℕ = option_map_or reply_bytes c.self.inside.reply [] in
    let left : length c.args.self.now.pending ≡ length bytes - c.self.inside.written = ap (λ (s : SeatState). length s.pending) (sym c.self.view_is) ∙ length-drop c.self.inside.written bytes in
    let sum : c.min-written.result ≡ c.self.inside.written + c.args.count = omega (arith, left, c.reply_len-len.ensures.exact, c.requires, c.self.invariant, c.min-written.ensures) in
    record {
      fewer_pending = record {
        same_id = ap (λ (s : SeatState). s.id) c.self.view_is;
        reader = ap (λ (s : SeatState). s.feed.reader) c.self.view_is;
        pending = ap (λ (n : ℕ). drop n bytes) sum ∙ sym (drop-drop c.args.count c.self.inside.written bytes) ∙ ap (λ (s : SeatState). drop c.args.count s.pending) c.self.view_is;
        same_closing = ap (λ (s : SeatState). s.closing) c.self.view_is;
        ended = ap (λ (s : SeatState). s.ended) c.self.view_is;
      };
    }
