-- How a follower starts: with the document, or with an empty replica where there is none.
use Rattle.std.specs.Prelude.{◌≡◌, Option, Result, Ok, Err}
use Rattle.xcap_io.specs.StreamStates.{StreamState}
use Rattle.patch_apply.specs.Views.{replica_view}
use Rattle.patch_apply.specs.declared.replica.ReplicaVersion.{ReplicaVersion}
use Rattle.client_follower.specs.FetchedDocuments.{FetchesDocument}
use Rattle.client_follower.specs.FollowerStates.{FollowedDocument, FollowerState}
use Rattle.client_follower.specs.declared.follower_fault.FollowerFault.{FollowerFault}

-- the follower of the document, with this version of it in its replica, or why there is none
abbrev pub follower_of : FollowedDocument → Result (Option ReplicaVersion) FollowerFault
    → Result FollowerState FollowerFault
follower_of document (Ok held) =
    Ok (record {
      root = document.root;
      user = document.user;
      doc = document.doc;
      held = replica_view held;
    })
follower_of document (Err fault) = Err fault

-- The document was fetched, and the follower holds the fetched version.
pub record StartsFollower (document : FollowedDocument) (old new : StreamState)
    (result : Result FollowerState FollowerFault) : Type 0 where
  pub fetched : Result (Option ReplicaVersion) FollowerFault
  pub fetches : FetchesDocument document old new fetched
  pub told : result ≡ follower_of document fetched
