-- What a follower does with the result of a GET of the feed of its document's changes (RFC 5874,
-- section 3; RFC 5875).
use Rattle.std.specs.Prelude.{◌≡◌, ℕ, List, Option, None, Some, Result, Ok, Err, if◌then◌else◌}
use Rattle.xml_tree.specs.Tree.{Tree}
use Rattle.xml_names.specs.declared.read_error.ReadError.{ReadError}
use Rattle.doc_names.specs.declared.doc_id.DocId.{DocId}
use Rattle.xcap_client.specs.declared.response.Response.{Response}
use Rattle.xcap_uri.specs.PrintedNames.{is_name_of}
use Rattle.patch_rules.specs.Replay.{ReplicaContents}
use Rattle.patch_apply.specs.ApplyAnswers.{IsApplyAnswer}
use Rattle.patch_apply.specs.DiffTexts.{NoticeAnswer}
use Rattle.patch_apply.specs.declared.fault.ApplyFault.{ApplyFault}
use Rattle.patch_apply.specs.declared.fault.NoticeFault.{NoticeFault}
use Rattle.patch_apply.specs.declared.replica.Applied.{Applied}
use Rattle.patch_apply.specs.declared.replica.Applied.TheVariants as answers
use Rattle.xcap_client.specs.declared.client_fault.ClientFault.{ClientFault}
use Rattle.client_follower.specs.FetchedDocuments.{is_refused_with}
use Rattle.client_follower.specs.FollowerFaults.{fault_of_apply, fault_of_client}
use Rattle.client_follower.specs.declared.follower_fault.FollowerFault.{FollowerFault}
use Rattle.client_follower.specs.declared.follower_fault.FollowerFault.TheVariants.{BadNotice}
use Rattle.client_follower.specs.declared.follower_fault.FollowerFault.TheVariants.{NoMemory}
use Rattle.client_follower.specs.declared.feed_rounds.Round.{Round}
use Rattle.client_follower.specs.declared.feed_rounds.Round.TheVariants as rounds

-- the outcome of a round by a diff document that was applied; none where the document has to be
-- fetched
abbrev pub round_outcome : Result Applied (ReadError ApplyFault)
    → Result (Option Round) FollowerFault
round_outcome (Ok answers.Same) = Ok (Some rounds.Same)
round_outcome (Ok answers.Patched) = Ok (Some rounds.Patched)
round_outcome (Ok answers.Removed) = Ok (Some rounds.Removed)
round_outcome (Ok (answers.Fetch tag)) = Ok None
round_outcome (Err error) = Err (fault_of_apply error)

-- The body is a diff document, which was applied to the replica, or is none; but memory may run
-- out while it is read.
pub data TakesNotice (doc : DocId) (body : List ℕ) (held held' : ReplicaContents)
    (result : Result (Option Round) FollowerFault) : Type 0 where
  applies : (notice : Tree) (applied : Result Applied (ReadError ApplyFault))
      → NoticeAnswer body (Ok notice)
      → IsApplyAnswer (is_name_of doc) notice held applied held' → result ≡ round_outcome applied
      → TakesNotice doc body held held' result
  is_none : (fault : NoticeFault) → NoticeAnswer body (Err fault) → held' ≡ held
      → result ≡ Err (BadNotice fault)
      → TakesNotice doc body held held' result
  lacks_memory : held' ≡ held → result ≡ Err NoMemory → TakesNotice doc body held held' result

-- by the result of the call: a response with a diff document; 410, where the server no longer
-- knows the etag and the document has to be fetched; or another fault
abbrev pub TakesFeed : DocId → Result Response ClientFault → ReplicaContents → ReplicaContents
    → Result (Option Round) FollowerFault → Type 0
TakesFeed doc (Ok response) held held' result = TakesNotice doc response.body held held' result
TakesFeed doc (Err fault) held held' result =
    (held' ≡ held)
    × (result ≡ (if is_refused_with 410 fault then Ok None else Err (fault_of_client fault)))
