-- The request that follows from the replica, and what comes of the reply.
use Rattle.std.proofs.Common.{◌≡◌, ℕ, Bool, true, false, not, Option, None, Some, is_some, inl, inr, refl, sym, ap, ◌∙◌, subst}
use Rattle.doc_names.specs.declared.doc_id.DocId.{DocId}
use Rattle.xcap_uri.specs.Shapes.{parse_tag}
use Rattle.reply_text.specs.ReplyHeads.{SentReply}
use Rattle.http_wire.specs.declared.request.Request.{Request}
use Rattle.xcap_machine.proofs.Cases.{at_true}
use Rattle.xcap_machine.specs.Answers.{reply_only}
use Rattle.xcap_machine.specs.Requests.{IsAnswer}
use Rattle.client_theorem.specs.FollowResults.{FollowQuery, FollowOutcome, FollowsFeed, FollowsVersion, HoldsOrNoMemory, TakesReply}
use Rattle.client_theorem.specs.inner.FeedRequests.{AsksSinceReplica}

-- ---- numbers that are present and absent

pub none_there : (o : Option ℕ) (none : Bool) → is_some o ≡ not none → none ≡ true → o ≡ None
none_there None none same is = refl
none_there (Some n) none same is = let never : true ≡ false = same ∙ ap not is in absurd cc

pub one_there : (o : Option ℕ) (none : Bool) → is_some o ≡ not none → none ≡ false → (n : ℕ) × (o ≡ Some n)
one_there None none same is = let never : false ≡ true = same ∙ ap not is in absurd cc
one_there (Some n) none same is = (n, refl)

-- ---- the reply

pub follows : (query : FollowQuery) (mine : DocId) (outcome : FollowOutcome) (request : Request) (reply : SentReply)
    → AsksSinceReplica query.root query.mode query.doc outcome.old request → IsAnswer query.root query.content request (reply_only reply) → HoldsOrNoMemory (TakesReply mine reply) outcome
    → HoldsOrNoMemory (FollowsFeed query mine) outcome
follows query mine outcome request reply asks is (inl takes) =
    let answers = subst (λ (r : Request). IsAnswer query.root query.content r (reply_only reply)) asks.is_request is in
    inl (subst (FollowsVersion query mine outcome) (sym asks.is_held) (at_true (is_some (parse_tag asks.version.0)) _ _ (ap is_some asks.is_tag) (reply, answers, takes)))
follows query mine outcome request reply asks is (inr none) = inr none
