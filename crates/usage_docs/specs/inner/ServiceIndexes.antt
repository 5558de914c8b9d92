-- The invariant of an index being built.
use Rattle.std.specs.Prelude.{◌≡◌, ℕ, map, if◌then◌else◌, ◌==◌, ◌+◌, min}
use Rattle.xml_tree.specs.Tree.{Tree, child_elements_of}
use Rattle.xml_tree.specs.declared.tree.Node.TheVariants.{Elem}
use Rattle.xml_names.specs.Limits.{u64_max}
use Rattle.usage_docs.specs.Services.{index_of}
use Rattle.usage_docs.specs.readers.ServiceNodes.{elems_len}

-- the element is the index of its children, and their printed length is this
pub record IsIndex (root : Tree) (inner : ℕ) : Type 0 where
  pub whole : root ≡ index_of (child_elements_of root)
  pub counted : inner ≡ elems_len (map Elem (child_elements_of root))

-- the printed length of an index, by the length of its services
abbrev pub index_len_with : ℕ → ℕ
index_len_with inner = if inner == 0 then 106 else min (inner + 124) u64_max
