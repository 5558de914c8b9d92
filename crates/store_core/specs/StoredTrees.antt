-- The tree of a document in a store.
use Rattle.std.specs.Prelude.{Bool}
use Rattle.xml_tree.specs.Tree.{Tree}

-- the tree, and whether it is unshared: if not, a change record may share it
pub record StoredTree : Type 0 where
  pub root : Tree
  pub own : Bool
