-- An element with other attributes, seen from its parent. The checks of its tag don't depend on
-- its content.
use Rattle.std.specs.Prelude.{Bool, true, List, [], Option, IsTrue}
use Rattle.std.specs.Option.{ForSome}
use Rattle.xml_tree.specs.Tree.{last, Tree, tree_of}
use Rattle.xml_names.specs.declared.names.Attr.{Attr}
use Rattle.usage_docs.specs.declared.schema_table.ElementKind.{ElementKind}
use Rattle.usage_docs.specs.declared.schema_table.ElementKind.TheVariants.{ResourceList}
use Rattle.usage_docs.specs.SchemaTable.{Scope}
use Rattle.usage_docs.specs.KeyAttributes.{are_attrs_allowed}
use Rattle.xml_tree.specs.TreeScopes.{inside}
use Rattle.usage_docs.specs.ReferenceForms.{are_references_formed}
use Rattle.usage_docs.specs.ElementKinds.{kind_of_child}

-- an element with these attributes in place of its own, and its start tag alone
abbrev pub with_attrs : List Attr → Tree → Tree
with_attrs ats e = tree_of e.name e.decls ats e.content

abbrev pub start_tag_with : List Attr → Tree → Tree
start_tag_with ats e = tree_of e.name e.decls ats (last [])

-- the element's kind, if it has one, allows the attributes
abbrev pub AreAttrsAllowed : Option ElementKind → Scope → Tree → Type 0
AreAttrsAllowed row c tag =
    ForSome row (λ kind.
    ForSome (kind_of_child kind c tag)
    (λ own. IsTrue (are_attrs_allowed own (inside c tag) tag.attrs)))

-- the reference among the attributes of an element of this kind has its form; a resource-list's
-- reference is its text
unfoldable pub are_attrs_formed : ElementKind → List Attr → Bool
are_attrs_formed ResourceList ats = true
are_attrs_formed kind ats = are_references_formed kind ats (last [])

-- the reference of the element has its form, if it has a kind
abbrev pub HasFormedAttrs : Option ElementKind → Scope → Tree → Type 0
HasFormedAttrs row c tag =
    ForSome row (λ kind.
    ForSome (kind_of_child kind c tag) (λ own. IsTrue (are_attrs_formed own tag.attrs)))
