-- The services of the index as nodes, and their length.
use Rattle.std.specs.Prelude.{ℕ, ◌+◌, List, [], ◌∷◌, map, filter}
use Rattle.xml_names.specs.Markup.{byte_len}
use Rattle.xml_tree.specs.Print.{print}
use Rattle.xml_tree.specs.declared.tree.Node.{Node}
use Rattle.xml_tree.specs.declared.tree.Node.TheVariants.{Elem, Chars, Comment}
use Rattle.usage_docs.specs.SchemaTable.{Scope}
use Rattle.usage_docs.specs.Services.{is_service, listed_service}
use Rattle.usage_docs.specs.readers.SiblingElements.{node_children}

-- the services among nodes, as the index lists them
abbrev pub listed_nodes : Scope → List Node → List Node
listed_nodes c ns = map Elem (map (listed_service c) (filter (is_service c) (node_children ns)))

-- the printed length of an element that is a node
abbrev pub elem_len : Node → ℕ
elem_len (Elem e) = byte_len (print e)
elem_len (Chars t) = 0
elem_len (Comment x) = 0

abbrev pub elems_len : List Node → ℕ
elems_len [] = 0
elems_len (n ∷ ns) = elem_len n + elems_len ns
