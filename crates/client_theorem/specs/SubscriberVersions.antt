-- Which version a subscriber has after following a document: the server's. RFC 5875, section 4.3:
-- the modes that send the changes of a document.
use Rattle.std.specs.Prelude.{◌≡◌, ◌≢◌, ◌≤◌, ◌⊎◌, ℕ, decimal, None, Some, Ok, Err, slice_get}
use Rattle.xml_names.specs.Limits.{u64_max}
use Rattle.xml_tree.specs.Tree.{Tree}
use Rattle.doc_names.specs.declared.doc_id.DocId.{DocId}
use Rattle.xcap_uri.specs.declared.target.Mode.{Mode}
use Rattle.xcap_uri.specs.declared.target.Mode.TheVariants.{NoPatching, XcapPatching, Aggregate}
use Rattle.store_core.specs.DocumentChanges.{find_document, document_id}
use Rattle.store_core.specs.Contents.{contents_of}
use Rattle.store_core.specs.Since.{Unknown, since}
use Rattle.store_core.specs.State.{Document, State, Version, versions}
use Rattle.patch_rules.specs.Replay.{ReplayAnswer, ReplicaContents, Removed}
use Rattle.patch_apply.specs.Views.{answer_view}
use Rattle.patch_apply.specs.declared.replica.Applied.{Applied}
use Rattle.xcap_machine.specs.SubscriberReplicas.{patch_answer_between, replica_of_version}
use Rattle.client_theorem.specs.FollowResults.{FollowOutcome}
use Rattle.client_theorem.specs.declared.follow_fault.FollowFault.TheVariants.{NoMemory}

-- a mode that sends the changes, and not only that there were some
abbrev pub IsPatchingMode : Mode → Type 0
IsPatchingMode NoPatching = ⊥
IsPatchingMode XcapPatching = Unit {0}
IsPatchingMode Aggregate = Unit {0}

-- the document has this version, and the store has the changes since
pub record IsRetainedVersion (m : State) (id : DocId) (d : Document) (from : Version) : Type 0 where
  pub there : find_document document_id m.documents id ≡ Some d
  pub number : ℕ
  pub is_version : slice_get (versions d) number ≡ Some from
  pub retained : since (contents_of m) id from.tag ≢ Unknown

-- this result and this replica; or out of memory
abbrev pub GetsReplica : ReplayAnswer → ReplicaContents → FollowOutcome → Type 0
GetsReplica answer held outcome =
    ((applied : Applied) × (outcome.result ≡ Ok applied) × (answer_view applied ≡ answer)
    × (outcome.new ≡ held))
    ⊎ (outcome.result ≡ Err NoMemory)

-- a subscriber with a version that is retained gets the document's current version, in a mode that
-- sends changes
abbrev pub HoldsCurrentVersion : State → Mode → DocId → FollowOutcome → Type 0
HoldsCurrentVersion m mode id outcome =
    (d : Document) (from : Version) → IsPatchingMode mode → IsRetainedVersion m id d from
    → outcome.old ≡ replica_of_version from
    → GetsReplica (patch_answer_between from d.now) (replica_of_version d.now) outcome

-- a subscriber with a version of a document that is gone has an empty replica afterwards, in every
-- mode
abbrev pub DropsGoneDocument : State → DocId → FollowOutcome → Type 0
DropsGoneDocument m id outcome =
    (tag : ℕ) (tree : Tree) → find_document document_id m.documents id ≡ None → 1 ≤ tag
    → tag ≤ u64_max → outcome.old ≡ Some (decimal tag, tree)
    → GetsReplica Removed None outcome
