-- Memory reserved before an edit of one element: capacity that nodes or attributes move into, and
-- joined texts.
use Rattle.std.specs.Prelude.{◌≡◌, ℕ, suc, ◌<◌, ◌≤◌, List, [], length, Option, None, Vec}
use Rattle.std.specs.Prelude.{vec_capacity, find}
use Rattle.std.specs.declared.alloc.Global.{Global}
use Rattle.xml_tree.specs.Tree.{Content, Tree}
use Rattle.xml_tree.specs.Nodes.{joined_neighbor_texts, nodes_of, place}
use Rattle.xml_names.specs.declared.names.Attr.{Attr}
use Rattle.xml_names.specs.declared.names.Name.{Name}
use Rattle.xml_tree.specs.declared.tree.Node.{Node}
use Rattle.xml_names.specs.Attributes.{has_qname}

-- an empty vector with capacity for at least n items
abbrev pub HasCapacity : {A : Type 0} → ℕ → Vec A Global → Type 0
HasCapacity n room = (room.items ≡ []) × (n ≤ vec_capacity room)

-- an empty vector with capacity for the nodes of an element and one more
abbrev pub HasNodeCapacity : Tree → Vec Node Global → Type 0
HasNodeCapacity e room = HasCapacity (suc (length (nodes_of e.content))) room

-- an empty vector, with capacity for the attributes of an element and one more where none of them
-- has this name
abbrev pub HasAttrCapacity : Name → Tree → Vec Attr Global → Type 0
HasAttrCapacity n e room =
    (room.items ≡ []) × (find (has_qname n) e.attrs ≡ None → length e.attrs < vec_capacity room)

-- the texts directly before and after the i-th child element, joined, where both are there
abbrev pub joined_texts_around : ℕ → Content → Option (List ℕ)
joined_texts_around i c = joined_neighbor_texts (place i (nodes_of c)) (nodes_of c)
