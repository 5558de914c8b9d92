use Rattle.std.proofs.Common.{refl, sym, ap, subst, ◌∙◌}
use Rattle.std.specs.Prelude.{Err}
use Rattle.std.proofs.lemmas.Result.{err_from_is_err_and}
use Rattle.doc_names.specs.declared.doc_id.DocId.{DocId}
use Rattle.patch_apply.specs.Views.{replica_view}
use Rattle.xcap_client.specs.declared.client_fault.ClientFault.TheVariants as clients
use Rattle.client_follower.specs.Rounds.{AsksFeed}
use Rattle.client_follower.specs.FollowerStates.{FollowerState}
use Rattle.client_follower.proofs.FollowerRequests.{called_as, feed_asked, not_called}
use Rattle.client_follower.proofs.follower.Follower.ask_feed.Goals as goal

pub returns-in_err-path-clause-asks_feed : goal.returns-in_err-path-clause-asks_feed
returns-in_err-path-clause-asks_feed g c =
    let p = err_from_is_err_and c.from_residual.result c.from_residual.ensures.1 in
    let s = c.self.inside in
    let line = g.C.Line.state c.args.peer.now in
    let f : FollowerState = record { root = s.root; user = s.user; doc = s.replica.doc; held = replica_view s.replica.held } in
    subst (λ (h : FollowerState). AsksFeed h h line line c.from_residual.result) c.self.view_is
    (feed_asked f c.in-Some.held.tag c.in-Some.held.root (Err clients.NoMemory) f.held line line c.from_residual.result (ap replica_view c.in-Some.is) (not_called s.root _ line) (refl, p.1 ∙ ap Err p.2))

pub returns-clause-asks_feed : goal.returns-clause-asks_feed
returns-clause-asks_feed g c =
    let s = c.self.inside in
    let old = g.C.Line.state c.args.peer.now in
    let new = g.C.Line.state c.fetch-given.new.peer in
    let made = c.take_feed.new.replica in
    let f : FollowerState = record { root = s.root; user = s.user; doc = s.replica.doc; held = replica_view s.replica.held } in
    let base : AsksFeed f (record f { held = replica_view made.held }) old new c.take_feed.result =
    feed_asked f c.in-Some.held.tag c.in-Some.held.root c.fetch-given.result (replica_view made.held) old new c.take_feed.result (ap replica_view c.in-Some.is)
    (called_as s.root _ s.user _ _ old new c.fetch-given.result c.user_as_str.ensures.exact (c.as_str.ensures.same_chars ∙ c.in_ok-path.ensures.ok) c.fetch-given.ensures.calls_get)
    c.take_feed.ensures.takes_feed in
    subst (λ (h : FollowerState). AsksFeed h (record { root = s.root; user = s.user; doc = made.doc; held = replica_view made.held }) old new c.take_feed.result) c.self.view_is
    (subst (λ (d : DocId). AsksFeed f (record { root = s.root; user = s.user; doc = d; held = replica_view made.held }) old new c.take_feed.result) (sym c.take_feed.ensures.same_document) base)
