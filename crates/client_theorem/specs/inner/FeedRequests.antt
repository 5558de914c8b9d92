-- The request that follows from a replica.
use Rattle.std.specs.Prelude.{◌≡◌, ℕ, List, None, Some, Result, Ok, Err}
use Rattle.xml_tree.specs.Tree.{Tree}
use Rattle.doc_names.specs.declared.doc_id.DocId.{DocId}
use Rattle.xcap_uri.specs.Shapes.{parse_tag}
use Rattle.xcap_uri.specs.declared.target.Mode.{Mode}
use Rattle.http_wire.specs.declared.request.Request.{Request}
use Rattle.patch_rules.specs.Replay.{ReplicaContents}
use Rattle.client_theorem.specs.FeedRequests.{AsksForFeed, feed_request}
use Rattle.client_theorem.specs.declared.follow_fault.FollowFault.{FollowFault}
use Rattle.client_theorem.specs.declared.follow_fault.FollowFault.TheVariants.{Nothing, BadTag}
use Rattle.client_theorem.specs.declared.follow_fault.FollowFault.TheVariants.{Status}
use Rattle.client_theorem.specs.declared.follow_fault.FollowFault.TheVariants.{Notice, Apply}
use Rattle.client_theorem.specs.declared.follow_fault.FollowFault.TheVariants.{NoMemory}

-- it asks for the feed since the tag of the replica's version
pub record AsksSinceReplica (root : List ℕ) (mode : Mode) (id : DocId) (held : ReplicaContents)
    (request : Request) : Type 0 where
  pub version : List ℕ × Tree
  pub is_held : held ≡ Some version
  pub number : ℕ
  pub is_tag : parse_tag version.0 ≡ Some number
  pub is_request : request ≡ feed_request root mode version.0 id
  pub asks : AsksForFeed root mode number id request

-- that request, or why there is none
abbrev pub AsksForChanges : List ℕ → Mode → DocId → ReplicaContents → Result Request FollowFault
    → Type 0
AsksForChanges root mode id held (Ok request) = AsksSinceReplica root mode id held request
AsksForChanges root mode id held (Err Nothing) = held ≡ None
AsksForChanges root mode id held (Err BadTag) =
    (version : List ℕ × Tree) × (held ≡ Some version) × (parse_tag version.0 ≡ None)
AsksForChanges root mode id held (Err (Status status)) = ⊥
AsksForChanges root mode id held (Err (Notice fault)) = ⊥
AsksForChanges root mode id held (Err (Apply fault)) = ⊥
AsksForChanges root mode id held (Err NoMemory) = Unit {0}
