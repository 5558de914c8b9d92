use Rattle.std.proofs.Common.{refl, ap}
use Rattle.xcap_io.specs.ConnectionHistories.{ConnectionHistory}
use Rattle.http_feed.proofs.FeedParts.{when_spent}
use Rattle.http_feed.proofs.request_feed.RequestFeed.finish.Goals as goal

pub invariant_of-self : goal.invariant_of-self
invariant_of-self c =
    when_spent c.clear.new.self c.clear-2.new.self _ c.args.requests _ c.clear.ensures.exact c.clear-2.ensures.freed (ap (λ (h : ConnectionHistory). h.now.given) c.record_begin.ensures.next_is_logged) refl
