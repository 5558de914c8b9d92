-- What a child of an element gives to the walk of that element.
use Rattle.std.specs.Prelude.{ℕ, List, []}
use Rattle.std.specs.Option.{option_map_or}
use Rattle.xml_tree.specs.Tree.{Tree}
use Rattle.xml_tree.specs.TreeScopes.{inside}
use Rattle.usage_docs.specs.declared.schema_table.ElementKind.{ElementKind}
use Rattle.usage_docs.specs.declared.schema_table.ElementKind.TheVariants.{EntryList}
use Rattle.usage_docs.specs.SchemaTable.{Scope, kind_of}
use Rattle.list_resolve.specs.declared.reference.Reference.{Reference}
use Rattle.list_resolve.specs.Walks.{Item, kind_items, content_items}

-- what a child of an element of this kind gives, in the scope around it
abbrev pub child_items : (Reference → List Item) → List ℕ → ElementKind → Scope → Tree → List Item
child_items behind root row c child_element =
    option_map_or (λ kind.
    kind_items behind root kind child_element
    (content_items behind root EntryList (inside c child_element) child_element.content))
    (kind_of row (inside c child_element) child_element.name) []
