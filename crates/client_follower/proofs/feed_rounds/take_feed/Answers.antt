use Rattle.patch_apply.specs.Views.{replica_view}
use Rattle.client_follower.proofs.ResponseContents.{feed_taken, notice_keeps}
use Rattle.client_follower.proofs.feed_rounds.take_feed.Goals as goal

pub returns-in-Ok-clause-takes_feed : goal.returns-in-Ok-clause-takes_feed
returns-in-Ok-clause-takes_feed c =
    feed_taken c.args.replica.now.doc c.args.given c.in-Ok.response c.as_slice.result.now (replica_view c.args.replica.now.held) (replica_view c.take_notice.new.replica.held) c.take_notice.result
    c.in-Ok.is c.as_slice.ensures.exact c.take_notice.ensures.takes_diff

pub returns-in-Ok-clause-unchanged_unless_reported : goal.returns-in-Ok-clause-unchanged_unless_reported
returns-in-Ok-clause-unchanged_unless_reported c =
    notice_keeps c.args.replica.now.doc c.as_slice.result.now (replica_view c.args.replica.now.held) (replica_view c.take_notice.new.replica.held) c.take_notice.result c.take_notice.ensures.takes_diff
