-- What a watcher keeps of a document's tree. This is the project's own.
use Rattle.std.specs.Prelude.{ℕ}
use Rattle.xml_tree.specs.Tree.{Tree}

-- a document's tree, and the number of the change that made it
abbrev pub MirroredDocument : Type 0
MirroredDocument = Tree × ℕ
