-- What a follower follows, and a follower as its callers see it.
use Rattle.std.specs.Prelude.{ℕ, List, Option}
use Rattle.doc_names.specs.declared.doc_id.DocId.{DocId}
use Rattle.patch_rules.specs.Replay.{ReplicaContents}

-- the document that is followed: the root of its server, the user who asks, and its name
pub record FollowedDocument : Type 0 where
  pub root : List ℕ
  pub user : Option (List ℕ)
  pub doc : DocId

-- the root of the server, the user who asks, the document, and the etag and tree of the replica,
-- where it has them
pub record FollowerState : Type 0 where
  pub root : List ℕ
  pub user : Option (List ℕ)
  pub doc : DocId
  pub held : ReplicaContents
