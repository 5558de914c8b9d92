use Rattle.std.proofs.Common.{rules, ◌≡◌, ◌<◌, ◌≤◌, length, ap, arith}
use Rattle.xcap_io.specs.ConnectionHistories.{ConnectionHistory}
use Rattle.http_feed.specs.Feeds.{FeedState}
use Rattle.http_feed.proofs.FeedParts.{with_more}
use Rattle.http_feed.proofs.request_feed.RequestFeed.give.Goals as goal

pub invariant_of-self : goal.invariant_of-self
invariant_of-self c =
    let self = c.self.inside in
    let rooms = ap (λ (f : FeedState). f.buffer.room) c.self.view_is in
    let asked = c.requires in
    let fits : length c.args.bytes.now ≤ self.held.room = omega (arith, asked, rooms) in
    let some : 0 < length c.args.bytes.now = search rules in
    with_more self.place self.held c.add.new.self self.chunks self.given.history.now.given _ c.args.bytes.now self.requests self.spent c.self.invariant c.add.ensures.exact
    (ap (λ (h : ConnectionHistory). h.now.given) c.record_read.ensures.given_is_logged) fits some
