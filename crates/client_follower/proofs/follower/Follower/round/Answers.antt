use Rattle.std.proofs.Common.{ap, ◌∙◌}
use Rattle.std.specs.Prelude.{Err}
use Rattle.std.proofs.lemmas.Result.{err_from_is_err_and}
use Rattle.client_follower.specs.Rounds.{failed}
use Rattle.client_follower.proofs.FollowerRequests.{sent_back, told_round}
use Rattle.client_follower.proofs.follower.Follower.round.Goals as goal

pub returns-in_err-round-clause-follows_document : goal.returns-in_err-round-clause-follows_document
returns-in_err-round-clause-follows_document g c =
    let p = err_from_is_err_and c.from_residual.result c.from_residual.ensures.1 in
    failed c.in_err-round.field-0.0 c.in_err-round.ensures.asks_feed c.in_err-round.ensures.unchanged_unless_reported (p.1 ∙ ap Err p.2)

pub returns-in-Some-clause-follows_document : goal.returns-in-Some-clause-follows_document
returns-in-Some-clause-follows_document g c =
    told_round c.args.self.now c.ask_feed.new.self (g.C.Line.state c.args.peer.now) (g.C.Line.state c.ask_feed.new.peer) c.in_ok-round.field-0 c.in-Some.round c.in-Some.is c.in_ok-round.ensures.asks_feed

pub returns-in-None-clause-follows_document : goal.returns-in-None-clause-follows_document
returns-in-None-clause-follows_document g c =
    sent_back c.args.self.now c.ask_feed.new.self c.refetch.new.self (g.C.Line.state c.args.peer.now) (g.C.Line.state c.ask_feed.new.peer) (g.C.Line.state c.refetch.new.peer) c.in_ok-round.field-0 c.refetch.result
    c.in-None.is c.in_ok-round.ensures.asks_feed c.in_ok-round.ensures.unchanged_unless_reported c.refetch.ensures.refetches
