-- Where a new element may be inserted in a valid document, by the parts of its neighbours.
use Rattle.std.specs.Prelude.{◌≡◌, ℕ, zero, suc, List, [], ◌∷◌, ◌++◌, Some, slice_get, IsTrue}
use Rattle.std.specs.Option.{ForSome}
use Rattle.xml_tree.specs.Tree.{Content, last, more, comment_node, Tree, child_elements_of}
use Rattle.usage_docs.specs.declared.schema_table.ElementKind.{ElementKind}
use Rattle.usage_docs.specs.SchemaTable.{Scope, kind_of}
use Rattle.xml_tree.specs.TreeScopes.{inside}
use Rattle.usage_docs.specs.Validity.{IsValidChild}
use Rattle.usage_docs.specs.readers.ContentParts.{part_of, may_follow, end_part}

-- the part of a child
abbrev pub part_of_child : ElementKind → Scope → Tree → ℕ
part_of_child row c e = part_of row (inside c e) e.name

-- the part of the child before a gap, where `b` is the part before the content
abbrev pub part_before : ElementKind → Scope → ℕ → ℕ → Content → ℕ
part_before row c b zero content = b
part_before row c b (suc j) (last t) = b
part_before row c b (suc j) (more t n ds ats k rest) =
    part_before row c (part_of row (c ++ ds ∷ []) n) j rest
part_before row c b (suc j) (comment_node t x rest) = part_before row c b (suc j) rest

-- the part of the child after the gap, or the end
abbrev pub part_after : ElementKind → Scope → ℕ → Content → ℕ
part_after row c j (last t) = end_part
part_after row c zero (more t n ds ats k rest) = part_of row (c ++ ds ∷ []) n
part_after row c (suc j) (more t n ds ats k rest) = part_after row c j rest
part_after row c j (comment_node t x rest) = part_after row c j rest

-- the new element is valid by itself, and may follow the child before it and be followed by the
-- one after it
abbrev pub FitsGapByParts : ElementKind → Scope → Content → Tree → ℕ → Type 0
FitsGapByParts row c content new j =
    IsValidChild row c new
    × IsTrue (may_follow row (part_before row c 0 j content) (part_of_child row c new))
    × IsTrue (may_follow row (part_of_child row c new) (part_after row c j content))

-- the new element fits the gap in the element at a path below one of this kind; the content of
-- foreign elements isn't checked
abbrev pub FitsGapByPartsBelow : ElementKind → Scope → Tree → List ℕ → Tree → ℕ → Type 0
FitsGapByPartsBelow row c e [] new j = FitsGapByParts row c e.content new j
FitsGapByPartsBelow row c e (n ∷ q) new j =
    (child_element : Tree)
    × ((slice_get (child_elements_of e) n ≡ Some child_element)
    × ForSome (kind_of row (inside c child_element) child_element.name) (λ kind.
    FitsGapByPartsBelow kind (inside c child_element) child_element q new j))
