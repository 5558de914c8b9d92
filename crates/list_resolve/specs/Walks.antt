-- The walk of a list, including the lists that references lead to. RFC 4826, sections 3.2 and 4.2:
-- a list has entries, lists, references to entries and references to lists, in document order; a
-- service has a list, or a reference to one. How long a chain of references is followed is this
-- server's own.
use Rattle.std.specs.Prelude.{ℕ, zero, suc, List, [], ◌∷◌, ◌++◌, Option, if◌then◌else◌}
use Rattle.std.specs.Option.{option_map_or}
use Rattle.xml_tree.specs.Tree.{Content, Tree, last, more, comment_node, tree_of}
use Rattle.usage_docs.specs.declared.schema_table.ElementKind.{ElementKind}
use Rattle.usage_docs.specs.declared.schema_table.ElementKind.TheVariants.{EntryList, Entry}
use Rattle.usage_docs.specs.declared.schema_table.Key.TheVariants.{Uri}
use Rattle.usage_docs.specs.SchemaTable.{Scope, kind_of}
use Rattle.usage_docs.specs.KeyAttributes.{value_of}
use Rattle.list_resolve.specs.declared.flat_lists.TheConstants.{CHAIN_LIMIT}
use Rattle.list_resolve.specs.declared.document_place.Place.{Place}
use Rattle.list_resolve.specs.declared.reference.Reference.{Reference}
use Rattle.list_resolve.specs.ElementPlaces.{contains_place}
use Rattle.list_resolve.specs.References.{reference_of}
use Rattle.list_resolve.specs.ScopedElements.{ScopedElement}
use Rattle.list_resolve.specs.Resolution.{ResolvedReference}

-- an item of a walk: an address, or the mark of a reference
pub data Item : Type 0 where
  address : List ℕ → Item
  mark : Item

-- what an element of this kind gives, where a list gives these items: an entry its address, which
-- it has in a valid document; a list its walk; a reference a mark, and then what it leads to; and
-- any other element nothing
abbrev pub kind_items : (Reference → List Item) → List ℕ → ElementKind → Tree → List Item
    → List Item
kind_items resolve root Entry e items =
    option_map_or (λ uri. address uri ∷ []) (value_of Uri e.attrs) []
kind_items resolve root EntryList e items = items
kind_items resolve root kind e items =
    option_map_or (λ r. mark ∷ resolve r) (reference_of root kind e.attrs e.content) []

-- the walk of the content of an element of this kind, in the scope inside it: the items of its
-- children that have a kind, in order
abbrev pub content_items : (Reference → List Item) → List ℕ → ElementKind → Scope → Content
    → List Item
content_items resolve root row c (last t) = []
content_items resolve root row c (comment_node t x rest) = content_items resolve root row c rest
content_items resolve root row c (more t n ds ats k rest) =
    option_map_or (λ kind.
    kind_items resolve root kind (tree_of n ds ats k)
    (content_items resolve root EntryList (c ++ ds ∷ []) k))
    (kind_of row (c ++ ds ∷ []) n) []
    ++ content_items resolve root row c rest

-- what an element of an element kind gives
abbrev pub scoped_element_items : (Reference → List Item) → List ℕ → ScopedElement → List Item
scoped_element_items resolve root s =
    kind_items resolve root s.kind s.element
    (content_items resolve root EntryList s.scope s.element.content)

-- what comes after a mark: what the element that the reference leads to gives, unless it is
-- already on the chain of elements that the walk is in, to which n more may be added
abbrev pub walk_after_mark : (Reference → Option ResolvedReference) → List ℕ → ℕ → List Place
    → Reference
    → List Item
walk_after_mark resolve_reference root zero chain r = []
walk_after_mark resolve_reference root (suc left) chain r =
    option_map_or (λ l.
    if contains_place chain l.place then []
    else scoped_element_items (walk_after_mark resolve_reference root left (l.place ∷ chain)) root
    l.scoped_element)
    (resolve_reference r) []

-- the walk of an element of an element kind, with an empty chain, which may have at most
-- `CHAIN_LIMIT` elements
abbrev pub walk : (Reference → Option ResolvedReference) → List ℕ → ScopedElement → List Item
walk resolve_reference root s =
    content_items
    (walk_after_mark resolve_reference root CHAIN_LIMIT []) root s.kind s.scope s.element.content
