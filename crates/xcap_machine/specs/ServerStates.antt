-- A server as its callers see it. RFC 4825, section 8.
use Rattle.std.specs.Prelude.{ℕ, List}
use Rattle.store_core.specs.Contents.{StoreContents}

-- its root, and the contents of its store
pub record ServerState : Type 0 where
  pub root : List ℕ
  pub content : StoreContents
