use Rattle.std.proofs.Common.{sym, ap, subst, ◌∙◌}
use Rattle.http_feed.specs.Feeds.{IsNextOf}
use Rattle.hall_serve.specs.Seats.{SeatState}
use Rattle.hall_serve.proofs.FirstItems.{next_of}
use Rattle.hall_serve.proofs.seat.Seat.next_item.Goals as goal

pub returns-clause-first_item : goal.returns-clause-first_item
returns-clause-first_item c =
    let unspent = ap (λ (s : SeatState). s.feed.reader.spent) c.self.view_is ∙ c.requires.unspent in
    next_of c.args.self.now.ended c.args.self.now.feed.reader c.next.new.self.reader c.next.result (ap (λ (s : SeatState). s.ended) (sym c.self.view_is) ∙ c.if-self.false)
    (subst (λ (s : SeatState). IsNextOf s.feed.reader c.next.result c.next.new.self.reader) c.self.view_is (c.next.ensures.first_item unspent))
