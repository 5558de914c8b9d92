-- What comes of following a document: the replica's version, its tag, the machine's reply to the
-- request for the feed, the reply's body as a diff document, and what the diff document makes of
-- the version, in this order; the first that fails is reported, and the replica is unchanged. RFC
-- 5874, section 3.
use Rattle.std.specs.Prelude.{◌≡◌, ◌⊎◌, ◌==◌, ℕ, List, Option, None, Some, is_some, Result, Ok, Err}
use Rattle.std.specs.Bool.{MatchBool}
use Rattle.xml_tree.specs.Tree.{Tree}
use Rattle.doc_names.specs.declared.doc_id.DocId.{DocId}
use Rattle.xcap_uri.specs.PrintedNames.{is_name_of}
use Rattle.xcap_uri.specs.Shapes.{parse_tag}
use Rattle.xcap_uri.specs.declared.target.Mode.{Mode}
use Rattle.reply_text.specs.ReplyHeads.{SentReply}
use Rattle.store_core.specs.Contents.{StoreContents}
use Rattle.xcap_machine.specs.Answers.{reply_only}
use Rattle.xcap_machine.specs.Requests.{IsAnswer}
use Rattle.patch_rules.specs.Replay.{ReplayAnswer, ReplayFault, ReplicaContents, IsReplayOutcome}
use Rattle.patch_apply.specs.DiffTexts.{NoticeAnswer}
use Rattle.patch_apply.specs.Views.{answer_view, apply_fault_of}
use Rattle.patch_apply.specs.declared.fault.NoticeFault.{NoticeFault}
use Rattle.patch_apply.specs.declared.replica.Applied.{Applied}
use Rattle.client_theorem.specs.FeedRequests.{feed_request}
use Rattle.client_theorem.specs.declared.follow_fault.FollowFault.{FollowFault}
use Rattle.client_theorem.specs.declared.follow_fault.FollowFault.TheVariants.{Nothing, BadTag}
use Rattle.client_theorem.specs.declared.follow_fault.FollowFault.TheVariants.{Status}
use Rattle.client_theorem.specs.declared.follow_fault.FollowFault.TheVariants.{Notice, Apply}
use Rattle.client_theorem.specs.declared.follow_fault.FollowFault.TheVariants.{NoMemory}

-- A replica before a document was followed with it, the result, and the replica afterwards.
pub record FollowOutcome : Type 0 where
  pub old : ReplicaContents
  pub result : Result Applied FollowFault
  pub new : ReplicaContents

-- Which document is followed, in which mode, and by which machine: its root and its store contents.
pub record FollowQuery : Type 0 where
  pub root : List ℕ
  pub content : StoreContents
  pub mode : Mode
  pub doc : DocId

-- a fault, after which the replica is unchanged
abbrev pub FailsWith : FollowFault → FollowOutcome → Type 0
FailsWith fault outcome = (outcome.result ≡ Err fault) × (outcome.new ≡ outcome.old)

-- this, or out of memory, after which the replica is unchanged: `Answered` (`xml_tree/Memory`)
-- says nothing of replicas
abbrev pub HoldsOrNoMemory : (FollowOutcome → Type 0) → FollowOutcome → Type 0
HoldsOrNoMemory Comes outcome = Comes outcome ⊎ FailsWith NoMemory outcome

-- what a diff document makes of a version, or why it can't be applied
abbrev pub AppliesDiff : Result (ReplayAnswer × ReplicaContents) ReplayFault → FollowOutcome
    → Type 0
AppliesDiff (Ok x) outcome =
    (applied : Applied) × (outcome.result ≡ Ok applied) × (answer_view applied ≡ x.0)
    × (outcome.new ≡ x.1)
AppliesDiff (Err fault) outcome = FailsWith (Apply (apply_fault_of fault)) outcome

-- a diff document is applied to a replica of the document `followed_id`; another body is refused
abbrev pub TakesNotice : DocId → Result Tree NoticeFault → FollowOutcome → Type 0
TakesNotice followed_id (Ok notice) outcome =
    (stated : Result (ReplayAnswer × ReplicaContents) ReplayFault)
    × IsReplayOutcome (is_name_of followed_id) notice outcome.old stated
    × AppliesDiff stated outcome
TakesNotice followed_id (Err fault) outcome = FailsWith (Notice fault) outcome

-- the body of a reply is read where the status is 200
abbrev pub TakesReply : DocId → SentReply → FollowOutcome → Type 0
TakesReply followed_id reply outcome =
    MatchBool (reply.status == 200)
    ((read : Result Tree NoticeFault) × NoticeAnswer reply.body read
    × TakesNotice followed_id read outcome)
    (FailsWith (Status reply.status) outcome)

-- the machine's reply to the request for the feed since a tag, with a replica of `followed_id`
abbrev pub FollowsSinceTag : FollowQuery → DocId → List ℕ → FollowOutcome → Type 0
FollowsSinceTag query followed_id tag outcome =
    (reply : SentReply)
    × IsAnswer query.root query.content (feed_request query.root query.mode tag query.doc)
    (reply_only reply)
    × TakesReply followed_id reply outcome

-- the replica's version, and its tag
abbrev pub FollowsVersion : FollowQuery → DocId → FollowOutcome → Option (List ℕ × Tree) → Type 0
FollowsVersion query followed_id outcome None = FailsWith Nothing outcome
FollowsVersion query followed_id outcome (Some version) =
    MatchBool (is_some (parse_tag version.0))
    (FollowsSinceTag query followed_id version.0 outcome)
    (FailsWith BadTag outcome)

-- what comes of following a document with a replica of the document `followed_id`
abbrev pub FollowsFeed : FollowQuery → DocId → FollowOutcome → Type 0
FollowsFeed query followed_id outcome = FollowsVersion query followed_id outcome outcome.old
