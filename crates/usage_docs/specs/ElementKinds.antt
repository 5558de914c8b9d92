-- The kind of an element of a document, found from the root down; foreign elements and what is in
-- them have none.
use Rattle.std.specs.Prelude.{ℕ, List, [], ◌∷◌, Option, Some, option_and_then, slice_get}
use Rattle.xml_tree.specs.Tree.{Tree, child_elements_of}
use Rattle.doc_names.specs.declared.usages.Usage.{Usage}
use Rattle.usage_docs.specs.declared.schema_table.ElementKind.{ElementKind}
use Rattle.usage_docs.specs.SchemaTable.{Scope, kind_of, root_kind}
use Rattle.xml_tree.specs.TreeScopes.{inside}

-- the kind of a child of an element of this kind
abbrev pub kind_of_child : ElementKind → Scope → Tree → Option ElementKind
kind_of_child row c child_element = kind_of row (inside c child_element) child_element.name

-- the kind of the element at a path below an element of this kind, which has this scope inside it
abbrev pub kind_below : ElementKind → Scope → Tree → List ℕ → Option ElementKind
kind_below row c e [] = Some row
kind_below row c e (n ∷ q) =
    option_and_then (λ child_element.
    option_and_then (λ kind. kind_below kind (inside c child_element) child_element q)
    (kind_of_child row c child_element))
    (slice_get (child_elements_of e) n)

-- the kind of the element at a path of a document
abbrev pub kind_at : Usage → Tree → List ℕ → Option ElementKind
kind_at u t q = kind_below (root_kind u) (t.decls ∷ []) t q
