use Rattle.std.proofs.Common.{◌<◌, refl, sym, ap, ◌∙◌, arith}
use Rattle.xcap_io.specs.ConnectionHistories.{ConnectionHistory}
use Rattle.http_feed.specs.inner.Buffers.{ReadBufferState}
use Rattle.http_feed.proofs.FeedParts.{at_next}
use Rattle.http_feed.proofs.request_feed.RequestFeed.new.Goals as goal

pub invariant_of-result : goal.invariant_of-result
invariant_of-result c =
    let few : 0 < 1000 = omega arith in
    at_next c.new.result c.new-2.result _ 0 _ (ap (λ (h : ConnectionHistory). h.now.given) c.new-3.ensures.empty_history ∙ sym (ap (λ (h : ReadBufferState). h.bytes) c.new.ensures.exact)) refl few
