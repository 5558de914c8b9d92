-- What a follower takes from the result of a GET of its document (RFC 4825, section 7.3; RFC 9110,
-- section 15).
use Rattle.std.specs.Prelude.{◌≡◌, ℕ, Bool, false, ◌==◌, List, [], Option, None, Some, Result, Ok}
use Rattle.std.specs.Prelude.{Err, if◌then◌else◌}
use Rattle.std.specs.Result.{result_map_both}
use Rattle.xcap_io.specs.StreamStates.{StreamState}
use Rattle.xml_names.specs.declared.limits.TheConstants.{MAX_LEVELS}
use Rattle.xml_tree.specs.Tree.{Tree}
use Rattle.tree_text.specs.Faults.{IsTextResult}
use Rattle.tree_text.specs.declared.fault.TextFault.{TextFault}
use Rattle.doc_names.specs.DocIds.{id_text}
use Rattle.xcap_client.specs.declared.response.Response.{Response}
use Rattle.patch_apply.specs.declared.replica.ReplicaVersion.{ReplicaVersion}
use Rattle.xcap_client.specs.Asks.{get_ask}
use Rattle.xcap_client.specs.Calls.{MakesCall}
use Rattle.xcap_client.specs.declared.client_fault.ClientFault.{ClientFault}
use Rattle.xcap_client.specs.declared.client_fault.ClientFault.TheVariants as clients
use Rattle.client_follower.specs.FollowerFaults.{fault_of_client}
use Rattle.client_follower.specs.FollowerStates.{FollowedDocument}
use Rattle.client_follower.specs.declared.follower_fault.FollowerFault.{FollowerFault}
use Rattle.client_follower.specs.declared.follower_fault.FollowerFault.TheVariants.{BadTag, BadText}
use Rattle.client_follower.specs.declared.follower_fault.FollowerFault.TheVariants.{NoMemory}

-- the response was refused with this status
abbrev pub is_refused_with : ℕ → ClientFault → Bool
is_refused_with status (clients.Refused told name) = told == status
is_refused_with status _ = false

-- A response with a document has an etag, and its body is the tree. Faults are reported in this
-- order; but memory may run out while the body is parsed.
pub data BringsVersion (response : Response)
    (result : Result ReplicaVersion FollowerFault) : Type 0 where
  has_no_tag : response.tag ≡ None → result ≡ Err BadTag → BringsVersion response result
  spells_a_document : (tag : List ℕ) (root : Tree) → response.tag ≡ Some tag
      → IsTextResult MAX_LEVELS [] response.body (Ok root)
      → result ≡ Ok (record { tag = tag; root = root }) → BringsVersion response result
  spells_none : (tag : List ℕ) (fault : TextFault) → response.tag ≡ Some tag
      → IsTextResult MAX_LEVELS [] response.body (Err fault)
      → result ≡ Err (BadText fault) → BringsVersion response result
  lacks_memory : (tag : List ℕ) → response.tag ≡ Some tag → result ≡ Err NoMemory
      → BringsVersion response result

-- by the result of the call: a response with the document; 404, where there is none; or another
-- fault
abbrev pub TakesDocument : Result Response ClientFault
    → Result (Option ReplicaVersion) FollowerFault → Type 0
TakesDocument (Ok response) result =
    (version : Result ReplicaVersion FollowerFault) × BringsVersion response version
    × (result ≡ result_map_both (λ held. Some held) (λ fault. fault) version)
TakesDocument (Err fault) result =
    result ≡ (if is_refused_with 404 fault then Ok None else Err (fault_of_client fault))

-- One call fetched the document, on a connection of its own.
pub record FetchesDocument (document : FollowedDocument) (old new : StreamState)
    (result : Result (Option ReplicaVersion) FollowerFault) : Type 0 where
  pub given : Result Response ClientFault
  pub calls : MakesCall document.root (get_ask document.user (id_text document.doc)) old new given
  pub takes : TakesDocument given result
