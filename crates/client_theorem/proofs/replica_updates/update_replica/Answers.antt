use Rattle.std.proofs.Common.{List, ℕ, ap, sym, ◌∙◌, subst, arith}
use Rattle.xcap_uri.specs.Roots.{is_root_text}
use Rattle.store_core.specs.Contents.{Represents, StoreContents}
use Rattle.store_core.specs.ValidStates.{IsValidState}
use Rattle.store_core.specs.State.{State}
use Rattle.xcap_machine.specs.Answers.{reply_only}
use Rattle.client_theorem.specs.FeedRequests.{AsksForFeed, feed_request}
use Rattle.client_theorem.specs.FollowResults.{FollowQuery}
use Rattle.patch_apply.specs.Views.{replica_view}
use Rattle.client_theorem.proofs.Holds.{Lawful, drops_gone, holds_present}
use Rattle.client_theorem.proofs.replica_updates.update_replica.Goals as goal

abbrev query_of : goal.After-request_and_apply → FollowQuery
query_of c = record { root = c.args.server.now.root; content = c.args.server.now.content; mode = c.args.mode; doc = c.args.doc.now }

lawful : (c : goal.After-request_and_apply) (m : State) → IsValidState m → Represents c.args.server.now.content m → Lawful (query_of c) m
lawful c m kept stands =
    let root = c.args.server.now.root in
    let is_root = ap is_root_text (sym c.root.ensures.exact) ∙ c.text-text.ensures.valid_root_text in
    record {
      kept = kept;
      stands = stands;
      asks = λ tag n is_tag.
          subst (λ (r : List ℕ). AsksForFeed r c.args.mode n c.args.doc.now (feed_request r c.args.mode tag c.args.doc.now)) c.root-2.ensures.exact
          (c.requests_ask_for_feeds.ensures.asks_feed c.args.mode tag n c.requires.has_feed is_tag);
      holds = λ tag reply is. c.subscribers_hold_the_document.ensures.held_after_answer root c.args.server.now.content m (feed_request root c.args.mode tag c.args.doc.now) (reply_only reply) is_root kept stands is;
    }

pub returns-clause-holds_present : goal.returns-clause-holds_present
returns-clause-holds_present c m kept stands same =
    let last = c.last_number-last in
    holds_present (query_of c) m c.args.replica.now.doc (record { old = replica_view c.args.replica.now.held; result = c.request_and_apply.result; new = replica_view c.request_and_apply.new.replica.held })
    (lawful c m kept stands) same c.request_and_apply.ensures.follows_machine last.result (last.ensures.below_next ∙ ap (λ (s : StoreContents). s.next) c.store.ensures.same_contents) (omega (arith, last.type_inv))

pub returns-clause-drops_gone : goal.returns-clause-drops_gone
returns-clause-drops_gone c m kept stands same =
    drops_gone (query_of c) m c.args.replica.now.doc (record { old = replica_view c.args.replica.now.held; result = c.request_and_apply.result; new = replica_view c.request_and_apply.new.replica.held })
    (lawful c m kept stands) same c.request_and_apply.ensures.follows_machine
