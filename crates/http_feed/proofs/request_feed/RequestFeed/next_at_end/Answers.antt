use Rattle.std.proofs.Common.{◌≡◌, true, sym, subst, ap, ◌∙◌}
use Rattle.http_wire.specs.declared.request.Asked.{Asked}
use Rattle.http_wire.specs.NextRequests.{RequestReaderState}
use Rattle.http_feed.specs.Feeds.{FeedState, ReturnsItem}
use Rattle.http_feed.proofs.ReadPlaces.{none_given, none_held}
use Rattle.http_feed.proofs.ReturnedItems.{ends, ends_cut, spent_reader}
use Rattle.http_feed.proofs.request_feed.RequestFeed.next_at_end.Goals.{then-is_empty, else-is_empty}
use Rattle.http_feed.proofs.request_feed.RequestFeed.next_at_end.Goals as goal

pub returns-clause-last_item : goal.returns-clause-last_item
returns-clause-last_item c = λ stays.
    let old = c.args.self.now.reader in
    let self = c.self.inside in
    let given = self.given.history.now.given in
    let first = rw c.in_default.is at c.in_ok-asked.ensures.first_item in
    let waits = first stays in
    let mid = ap (λ (f : FeedState). f.reader) c.self.view_is ∙ waits.1 in
    let held : given ≡ old.held = ap (λ (r : RequestReaderState). r.held) mid in
    let last = ap (λ (f : FeedState). f.reader) c.finish-2.ensures.exact ∙ ap (λ (r : RequestReaderState). spent_reader r.requests) (ap (λ (f : FeedState). f.reader) c.finish.view_is ∙ waits.1) in
    let holds = c.self.invariant.holds in
    let empty = c.is_empty.ensures.exact in
    subst (λ (r : RequestReaderState). ReturnsItem true old c.if-is_empty.asked r) (sym last) (elim c.if-is_empty.branch [
      | then-is_empty w ↦ subst (λ (a : Asked). ReturnsItem true old a (spent_reader old.requests)) (sym w.asked-is) (ends old (sym held ∙ none_given self.place self.held.bytes self.chunks.decoding given holds (empty.0 w.if-is_empty.true)))
      | else-is_empty w ↦ subst (λ (a : Asked). ReturnsItem true old a (spent_reader old.requests)) (sym w.asked-is)
          (ends_cut old waits.0 (λ none. let found = empty.1 (none_held self.place self.held.bytes self.chunks.decoding given holds (held ∙ none)) in let other = w.if-is_empty.false in let e : ⊥ = cc in e))
    ])
