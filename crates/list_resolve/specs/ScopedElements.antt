-- Elements of an element kind, each with the scope inside it. RFC 4826, sections 3.2 and 4.2;
-- Namespaces in XML 1.0, section 6.
use Rattle.std.specs.Prelude.{ℕ, List, [], ◌∷◌, Option, Some, option_map, option_and_then}
use Rattle.std.specs.Prelude.{slice_get}
use Rattle.xml_tree.specs.Tree.{Tree, child_elements_of}
use Rattle.xml_tree.specs.TreeScopes.{inside}
use Rattle.usage_docs.specs.declared.schema_table.ElementKind.{ElementKind}
use Rattle.usage_docs.specs.declared.schema_table.ElementKind.TheVariants as kinds
use Rattle.usage_docs.specs.SchemaTable.{Scope, kind_of}

-- an element of an element kind; the scope ends with its own declarations
pub record ScopedElement : Type 0 where
  pub kind : ElementKind
  pub scope : Scope
  pub element : Tree

-- a child of such an element, if it has an element kind itself
abbrev pub scoped_child : ScopedElement → Tree → Option ScopedElement
scoped_child s child_element =
    option_map
    (λ kind. record { kind = kind; scope = inside s.scope child_element; element = child_element })
    (kind_of s.kind (inside s.scope child_element) child_element.name)

-- the element at a path from there, if all on the path have element kinds
abbrev pub scoped_element_below : ScopedElement → List ℕ → Option ScopedElement
scoped_element_below s [] = Some s
scoped_element_below s (n ∷ p) =
    option_and_then (λ k. scoped_element_below k p)
    (option_and_then (scoped_child s) (slice_get (child_elements_of s.element) n))

-- the root of a document whose root is of this kind
abbrev pub root_element : ElementKind → Tree → ScopedElement
root_element kind root = record { kind = kind; scope = root.decls ∷ []; element = root }

-- the element at a path of a document of lists
abbrev pub list_element : Tree → List ℕ → Option ScopedElement
list_element root p = scoped_element_below (root_element kinds.ResourceLists root) p
