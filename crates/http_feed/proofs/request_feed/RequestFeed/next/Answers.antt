use Rattle.std.proofs.Common.{◌++◌, ap, ◌∙◌}
use Rattle.xcap_io.specs.ConnectionHistories.{ConnectionHistory}
use Rattle.http_feed.proofs.FeedParts.{at_next}
use Rattle.http_feed.proofs.request_feed.RequestFeed.next.Goals as goal

pub invariant_of-self-in-Item : goal.invariant_of-self-in-Item
invariant_of-self-in-Item c =
    let same =
    ap (λ (h : ConnectionHistory). h.now.given) c.record_read.ensures.given_is_logged
    ∙ ap (λ (h : ConnectionHistory). h.now.given ++ c.bytes.result.now) c.record_begin.ensures.next_is_logged
    ∙ c.bytes.ensures.exact in
    at_next c.read_item.new.held c.clear.new.self _ c.self.inside.requests c.self.inside.spent same c.if-self.false (c.self.invariant.fewer c.if-self.false)
