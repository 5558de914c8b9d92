-- The root of a document's tree as code represents it.
use Rattle.std.specs.Prelude.{Bool, true, false}
use Rattle.xml_tree.specs.Tree.{Tree}
use Rattle.store_core.specs.declared.shared_root.SharedRoot.{SharedRoot}
use Rattle.store_core.specs.declared.shared_root.SharedRoot.TheVariants.{Own, Noted}

abbrev pub root_view : SharedRoot → Tree
root_view (Own root) = root
root_view (Noted root) = root

-- nobody shares it
abbrev pub is_unshared : SharedRoot → Bool
is_unshared (Own root) = true
is_unshared (Noted root) = false
