-- The flat list of a service: the addresses of its walk, each where it is first met.
use Rattle.std.specs.Prelude.{◌≡◌, ℕ, Bool, false, true, nat_lt, List, [], ◌∷◌, ◌++◌, Option, None}
use Rattle.std.specs.Prelude.{Some, Result, Ok, Err, option_and_then, if◌then◌else◌, filter_map}
use Rattle.std.specs.Prelude.{fold, count_by}
use Rattle.std.specs.List.{list_any}
use Rattle.std.specs.Option.{option_or, option_map_or}
use Rattle.std.specs.Str.{bytes_eq}
use Rattle.xml_tree.specs.Tree.{Tree, child_elements_of}
use Rattle.doc_names.specs.declared.doc_id.DocId.{DocId}
use Rattle.usage_docs.specs.declared.schema_table.ElementKind.TheVariants as kinds
use Rattle.usage_docs.specs.declared.schema_table.Key.TheVariants.{Uri}
use Rattle.usage_docs.specs.KeyAttributes.{value_of}
use Rattle.store_core.specs.Contents.{StoreContents}
use Rattle.list_resolve.specs.declared.uri_collector.TheConstants.{MARK_LIMIT}
use Rattle.list_resolve.specs.declared.fault.FlatFault.{FlatFault}
use Rattle.list_resolve.specs.declared.fault.FlatFault.TheVariants.{NoService, TooWide}
use Rattle.list_resolve.specs.declared.reference.Reference.{Reference}
use Rattle.list_resolve.specs.ScopedElements.{ScopedElement, scoped_child, root_element}
use Rattle.list_resolve.specs.Resolution.{ResolvedReference, ResolvesReferences, stored_tree}
use Rattle.list_resolve.specs.Walks.{Item, address, mark, walk}

-- ---- of a walk

abbrev pub item_address : Item → Option (List ℕ)
item_address (address uri) = Some uri
item_address mark = None

abbrev pub is_mark : Item → Bool
is_mark (address uri) = false
is_mark mark = true

-- the list with an address appended, unless it is there already
abbrev pub with_address : List (List ℕ) → List ℕ → List (List ℕ)
with_address uris uri = if list_any (bytes_eq uri) uris then uris else (uris ++ uri ∷ [])

-- the flat list of a walk: its addresses, each where it is first met; unless the walk meets too
-- many references
abbrev pub flat_list_of : List Item → Result (List (List ℕ)) FlatFault
flat_list_of items =
    if nat_lt MARK_LIMIT (count_by is_mark items) then Err TooWide
    else Ok (fold with_address [] (filter_map item_address items))

-- ---- of a service

-- a child of a root, if it is the service with this address
abbrev pub service_element : List ℕ → ScopedElement → Tree → Option ScopedElement
service_element uri root child_element =
    if option_map_or (λ own. bytes_eq own uri) (value_of Uri child_element.attrs) false
    then scoped_child root child_element
    else None

-- the first of these children that is the service
abbrev pub first_service : List ℕ → ScopedElement → List Tree → Option ScopedElement
first_service uri root [] = None
first_service uri root (child_element ∷ child_elements) =
    option_or (service_element uri root child_element) (first_service uri root child_elements)

-- the service with this address, if the document has one; a stored document has at most one
abbrev pub service_of : List ℕ → Tree → Option ScopedElement
service_of uri root =
    first_service uri (root_element kinds.RlsServices root) (child_elements_of root)

-- the flat list of the service with this address in this document, or why there is none, given
-- these stored documents: the flat list of its walk, which is the walk of its list, or of the only
-- reference in its resource-list. Its references may lead to documents of its own home.
abbrev pub IsFlatList : StoreContents → List ℕ → DocId → List ℕ → Result (List (List ℕ)) FlatFault
    → Type 0
IsFlatList c root doc uri answer =
    (resolve_reference : Reference → Option ResolvedReference)
    × ResolvesReferences (record { documents = c.documents; root = root; home = doc.home })
    resolve_reference
    × (answer
    ≡ option_map_or (λ service. flat_list_of (walk resolve_reference root service))
    (option_and_then (service_of uri) (stored_tree c.documents doc)) (Err NoService))
