-- What the answer to a request for a feed gives to subscribers with a version of the document. RFC
-- 5874, section 3, defines the diff document of changes, and RFC 5875, section 4.3, the modes of
-- diff processing.
use Rattle.std.specs.Prelude.{◌≡◌, ℕ, true, decimal, List, [], Option, None, Some, Ok, slice_get}
use Rattle.xml_tree.specs.Proper.{IsProperTree}
use Rattle.xml_tree.specs.Tree.{Tree}
use Rattle.tree_text.specs.Faults.{IsTextResult}
use Rattle.doc_names.specs.declared.doc_id.DocId.{DocId}
use Rattle.xcap_uri.specs.PrintedNames.{is_name_of}
use Rattle.xcap_uri.specs.Targets.{IsTargetResult}
use Rattle.xcap_uri.specs.declared.target.Mode.{Mode}
use Rattle.xcap_uri.specs.declared.target.Mode.TheVariants.{NoPatching}
use Rattle.xcap_uri.specs.declared.target.Target.TheVariants.{Feed}
use Rattle.patch_rules.specs.Notices.{most_notice_levels}
use Rattle.patch_rules.specs.Replay.{ReplayAnswer, ReplicaContents, Removed, IsReplayOutcome}
use Rattle.patch_rules.specs.Replay.{is_notice}
use Rattle.reply_text.specs.ReplyHeads.{SentReply}
use Rattle.http_wire.specs.declared.request.Request.{Request}
use Rattle.request_checks.specs.Methods.{method_of}
use Rattle.request_checks.specs.declared.method.Method.TheVariants.{Get}
use Rattle.store_core.specs.DocumentChanges.{find_document, document_id}
use Rattle.store_core.specs.Contents.{contents_of}
use Rattle.store_core.specs.Since.{Unknown, since}
use Rattle.store_core.specs.State.{Document, State, Version, versions}
use Rattle.xcap_machine.specs.SubscriberReplicas.{patch_answer_between, fetch_answer_between}
use Rattle.xcap_machine.specs.SubscriberReplicas.{replica_of_version}

-- the body is the text of a diff document, and a replica with contents `held` that applies it gets
-- the answer and the new contents
pub record UpdatesReplica (id : DocId) (body : List ℕ) (held : ReplicaContents)
    (answer : ReplayAnswer)
    (new : ReplicaContents) : Type 0 where
  pub notice : Tree
  pub is_read : IsTextResult most_notice_levels [] body (Ok notice)
  pub form : is_notice notice ≡ true
  pub proper : IsProperTree [] notice
  pub is_applied : IsReplayOutcome (is_name_of id) notice held (Ok (answer, new))

-- from one version of the document to another: where changes are sent, a replica of the one
-- becomes a replica of the other; else it is asked to fetch that version, or
-- learns that nothing changed
abbrev pub UpdatesReplicaBetween : Mode → DocId → List ℕ → Version → Version → Type 0
UpdatesReplicaBetween NoPatching id body from to =
    UpdatesReplica id body (replica_of_version from) (fetch_answer_between from to)
    (replica_of_version from)
UpdatesReplicaBetween _ id body from to =
    UpdatesReplica id body (replica_of_version from) (patch_answer_between from to)
    (replica_of_version to)

-- the document has exactly one version with this tag, and the body brings a replica of it to the
-- document's current version
pub record UpdatesReplicaFrom (mode : Mode) (tag : ℕ) (id : DocId) (body : List ℕ)
    (d : Document) : Type 0 where
  pub from : Version
  pub number : ℕ
  pub is_version : slice_get (versions d) number ≡ Some from
  pub same_tag : from.tag ≡ tag
  pub only : (other : Version) (k : ℕ) → slice_get (versions d) k ≡ Some other → other.tag ≡ tag
      → other ≡ from
  pub updates : UpdatesReplicaBetween mode id body from d.now

-- a document that is stored, and one that is gone, whose replica is empty afterwards
abbrev pub UpdatesReplicaIfStored : Mode → ℕ → DocId → List ℕ → Option Document → Type 0
UpdatesReplicaIfStored mode tag id body (Some d) = UpdatesReplicaFrom mode tag id body d
UpdatesReplicaIfStored mode tag id body None =
    (t : Tree) → UpdatesReplica id body (Some (decimal tag, t)) Removed None

-- what holds of the reply to a GET of the feed of a document since a tag
pub record UpdatesSubscriber (m : State) (mode : Mode) (tag : ℕ) (id : DocId)
    (reply : SentReply) : Type 0 where
  pub updates : reply.status ≡ 200
      → UpdatesReplicaIfStored mode tag id reply.body (find_document document_id m.documents id)
  pub unknown : reply.status ≡ 410 → since (contents_of m) id tag ≡ Unknown

-- what holds of each reply in a state
abbrev pub UpdatesAllSubscribers : List ℕ → State → Request → SentReply → Type 0
UpdatesAllSubscribers root m request reply =
    (mode : Mode) (tag : ℕ) (id : DocId)
    → IsTargetResult root request.target (Ok (Feed mode tag id))
    → method_of request.method ≡ Get
    → UpdatesSubscriber m mode tag id reply
