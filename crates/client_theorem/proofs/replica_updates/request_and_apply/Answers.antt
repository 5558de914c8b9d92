use Rattle.std.proofs.Common.{List, ℕ, subst}
use Rattle.patch_apply.specs.Views.{replica_view}
use Rattle.client_theorem.proofs.FeedReplies.{follows}
use Rattle.client_theorem.specs.inner.FeedRequests.{AsksSinceReplica}
use Rattle.client_theorem.proofs.replica_updates.request_and_apply.Goals as goal

pub returns-in_err-answered-clause-server_unchanged : goal.returns-in_err-answered-clause-server_unchanged
returns-in_err-answered-clause-server_unchanged c =
    let asks = subst (λ (r : List ℕ). AsksSinceReplica r c.args.mode c.args.doc.now (replica_view c.args.replica.now.held) c.in_ok-request.request) c.root.ensures.exact c.in_ok-request.ensures.asks_since in
    (c.ask_server.ensures.same_root, (c.ask_server.ensures.machine_feed c.args.mode asks.number c.args.doc.now asks.asks).1)

pub returns-clause-follows_machine : goal.returns-clause-follows_machine
returns-clause-follows_machine c =
    let held = replica_view c.args.replica.now.held in
    let asks = subst (λ (r : List ℕ). AsksSinceReplica r c.args.mode c.args.doc.now held c.in_ok-request.request) c.root.ensures.exact c.in_ok-request.ensures.asks_since in
    follows (record { root = c.args.server.now.root; content = c.args.server.now.content; mode = c.args.mode; doc = c.args.doc.now }) c.args.replica.now.doc
    (record { old = held; result = c.apply_reply.result; new = replica_view c.apply_reply.new.replica.held }) c.in_ok-request.request
    c.in_ok-answered.answered.reply asks (c.in_ok-answered.ensures.machine_feed c.args.mode asks.number c.args.doc.now asks.asks).0 c.apply_reply.ensures.takes_reply

pub returns-clause-server_unchanged : goal.returns-clause-server_unchanged
returns-clause-server_unchanged c =
    let asks = subst (λ (r : List ℕ). AsksSinceReplica r c.args.mode c.args.doc.now (replica_view c.args.replica.now.held) c.in_ok-request.request) c.root.ensures.exact c.in_ok-request.ensures.asks_since in
    (c.ask_server.ensures.same_root, (c.ask_server.ensures.machine_feed c.args.mode asks.number c.args.doc.now asks.asks).1)
