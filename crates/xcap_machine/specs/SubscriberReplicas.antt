-- The replica of a subscriber that applies a diff document. RFC 5874, section 3: a diff document
-- has the changes between two entity tags.
use Rattle.std.specs.Prelude.{◌≡◌, ℕ, ◌==◌, List, Some, Ok, decimal, slice_get, if◌then◌else◌}
use Rattle.xml_tree.specs.Tree.{Tree}
use Rattle.doc_names.specs.declared.doc_id.DocId.{DocId}
use Rattle.xcap_uri.specs.PrintedNames.{is_name_of}
use Rattle.edit_ops.specs.Notes.{Note}
use Rattle.patch_rules.specs.Replay.{ReplayAnswer, Fetch, ReplicaContents, Patched, IsReplayOutcome}
use Rattle.patch_rules.specs.Replay.{Same}
use Rattle.patch_laws.specs.ReplayLaws.{NoticeReadsBack}
use Rattle.store_core.specs.DocumentChanges.{find_document, document_id}
use Rattle.store_core.specs.Contents.{Represents, StoreContents}
use Rattle.store_core.specs.ValidStates.{IsValidState}
use Rattle.store_core.specs.Since.{ReportedChanges, since}
use Rattle.store_core.specs.State.{Document, State, Version, versions}

-- a document, one of its versions, and change records
pub record VersionNotes : Type 0 where
  pub id : DocId
  pub document : Document
  pub from : Version
  pub notes : List Note

-- store contents represent a valid state in which the document has this version, and have these
-- change records since the version's tag
pub record ReportsSince (c : StoreContents) (m : State) (v : VersionNotes) : Type 0 where
  pub kept : IsValidState m
  pub stands : Represents c m
  pub there : find_document document_id m.documents v.id ≡ Some v.document
  pub number : ℕ
  pub is_version : slice_get (versions v.document) number ≡ Some v.from
  pub told : since c v.id v.from.tag ≡ ReportedChanges v.notes

-- the replica of a version: its tag, in digits, and its tree
abbrev pub replica_of_version : Version → ReplicaContents
replica_of_version v = Some (decimal v.tag, v.tree)

-- from a version to another with the same tag nothing changed; to one with another tag the
-- document was patched
abbrev pub patch_answer_between : Version → Version → ReplayAnswer
patch_answer_between from to = if to.tag == from.tag then Same else Patched

-- where the changes aren't sent, the document has to be fetched if its tag changed
abbrev pub fetch_answer_between : Version → Version → ReplayAnswer
fetch_answer_between from to = if to.tag == from.tag then Same else Fetch (decimal to.tag)

-- the text of a diff document is read back, and a replica with contents `held` that applies it
-- gets the answer and the new contents
pub record DiffUpdatesReplica (id : DocId) (notice : Tree) (held : ReplicaContents)
    (answer : ReplayAnswer)
    (new : ReplicaContents) : Type 0 where
  pub is_read : NoticeReadsBack notice
  pub is_applied : IsReplayOutcome (is_name_of id) notice held (Ok (answer, new))
