-- The two document types as tables: what an element may be, have and contain, by its kind. RFC
-- 4826, section 3.2 (the schema of resource-lists) and section 4.2 (the schema of rls-services).
--
-- A content model is data, item by item as in the schemas: an `xs:sequence` is a list of items,
-- the alternatives of an `xs:choice` are the list of one item, and its minOccurs and maxOccurs
-- are the word before that: `one`, `opt` (0 or 1), `any` (0 or more). `foreign` is `xs:any` with
-- `##other`: an element of any other namespace than the kind's, but not without one. `text_alone`
-- is simple content.
use Rattle.std.specs.Prelude.{ℕ, Bool, List, [], ◌∷◌, ◌⊎◌, ◌≡◌, Option, None, Some, codes}
use Rattle.std.specs.Prelude.{if◌then◌else◌, ◌&&◌, not, find, unwrap_or, filter_map, flat_map}
use Rattle.std.specs.Str.{bytes_eq}
use Rattle.std.specs.Option.{option_map_or}
use Rattle.xml_names.specs.Scopes.{bound_uri}
use Rattle.xml_names.specs.declared.names.Name.{Name}
use Rattle.xml_names.specs.declared.names.Decl.{Decl}
use Rattle.doc_names.specs.Usages.{namespace_of}
use Rattle.doc_names.specs.declared.doc_id.Auid.TheVariants as auids
use Rattle.doc_names.specs.declared.usages.Usage.{Usage}
use Rattle.doc_names.specs.declared.usages.Usage.TheVariants as usage
use Rattle.usage_docs.specs.declared.schema_table.ElementKind.{ElementKind}
use Rattle.usage_docs.specs.declared.schema_table.ElementKind.TheVariants.{ResourceLists, EntryList}
use Rattle.usage_docs.specs.declared.schema_table.ElementKind.TheVariants.{Entry, EntryRef}
use Rattle.usage_docs.specs.declared.schema_table.ElementKind.TheVariants.{External, DisplayName}
use Rattle.usage_docs.specs.declared.schema_table.ElementKind.TheVariants.{RlsServices, Service}
use Rattle.usage_docs.specs.declared.schema_table.ElementKind.TheVariants.{ResourceList, Packages}
use Rattle.usage_docs.specs.declared.schema_table.ElementKind.TheVariants.{Package}

-- the namespace of resource-lists (RFC 4826, 3.2)
unfoldable pub lists_namespace : List ℕ
lists_namespace = namespace_of auids.ResourceLists

-- the namespace of rls-services (RFC 4826, 4.2)
unfoldable pub services_namespace : List ℕ
services_namespace = namespace_of auids.RlsServices

-- the kind of a document's root; its namespace is the namespace of its children
unfoldable pub root_kind : Usage → ElementKind
root_kind usage.ResourceLists = ResourceLists
root_kind usage.RlsServices = RlsServices

-- the namespace of the children of an element of this kind
unfoldable pub namespace_of_children : ElementKind → List ℕ
namespace_of_children ResourceLists = lists_namespace
namespace_of_children EntryList = lists_namespace
namespace_of_children Entry = lists_namespace
namespace_of_children EntryRef = lists_namespace
namespace_of_children External = lists_namespace
namespace_of_children DisplayName = lists_namespace
namespace_of_children RlsServices = services_namespace
namespace_of_children Service = services_namespace
namespace_of_children ResourceList = services_namespace
namespace_of_children Packages = services_namespace
namespace_of_children Package = services_namespace

-- the local name of an element of a kind; the `list` elements of resource-lists and of
-- rls-services are one kind
unfoldable pub local_name_of : ElementKind → List ℕ
local_name_of ResourceLists = codes "resource-lists"
local_name_of EntryList = codes "list"
local_name_of Entry = codes "entry"
local_name_of EntryRef = codes "entry-ref"
local_name_of External = codes "external"
local_name_of DisplayName = codes "display-name"
local_name_of RlsServices = codes "rls-services"
local_name_of Service = codes "service"
local_name_of ResourceList = codes "resource-list"
local_name_of Packages = codes "packages"
local_name_of Package = codes "package"

-- ---- content models

-- what a child is in an element: of a kind that is allowed there, of a foreign namespace, or one
-- that isn't allowed there
pub data Child : Type 0 where
  known : ElementKind → Child
  foreign : Child
  stray : Child

-- the children that one item of a model takes: exactly one of these, at most one, or any number
-- in any mix
pub data ModelItem : Type 0 where
  one : List Child → ModelItem
  opt : List Child → ModelItem
  any : List Child → ModelItem

-- text alone, or items in order with only white space as text
pub data Model : Type 0 where
  text_alone : Model
  sequence : List ModelItem → Model

-- what an element of a kind may contain
unfoldable pub content_model_of : ElementKind → Model
content_model_of ResourceLists = sequence (any (known EntryList ∷ []) ∷ [])
content_model_of EntryList =
    sequence (opt (known DisplayName ∷ [])
    ∷ any (known EntryList ∷ known External ∷ known Entry ∷ known EntryRef ∷ [])
    ∷ any (foreign ∷ []) ∷ [])
content_model_of Entry = sequence (opt (known DisplayName ∷ []) ∷ any (foreign ∷ []) ∷ [])
content_model_of EntryRef = sequence (opt (known DisplayName ∷ []) ∷ any (foreign ∷ []) ∷ [])
content_model_of External = sequence (opt (known DisplayName ∷ []) ∷ any (foreign ∷ []) ∷ [])
content_model_of DisplayName = text_alone
content_model_of RlsServices = sequence (any (known Service ∷ []) ∷ [])
content_model_of Service =
    sequence (one (known ResourceList ∷ known EntryList ∷ []) ∷ opt (known Packages ∷ [])
    ∷ any (foreign ∷ []) ∷ [])
content_model_of ResourceList = text_alone
content_model_of Packages = sequence (any (known Package ∷ foreign ∷ []) ∷ [])
content_model_of Package = text_alone

-- the items of a model; text alone allows no children
abbrev pub items_in : Model → List ModelItem
items_in text_alone = []
items_in (sequence items) = items

-- one of these children is this one
abbrev pub IsOneOf : List Child → Child → Type 0
IsOneOf [] x = ⊥
IsOneOf (y ∷ ys) x = (y ≡ x) ⊎ IsOneOf ys x

-- Children in order match the items of a model: each `one` takes a child of its list, each `opt`
-- one or none, each `any` any number, and no child is left.
pub data MatchesModel : List ModelItem → List Child → Type 0 where
  ends : MatchesModel [] []
  takes : {ys : List Child} {items : List ModelItem} {x : Child} {xs : List Child} → IsOneOf ys x
      → MatchesModel items xs → MatchesModel (one ys ∷ items) (x ∷ xs)
  may_take : {ys : List Child} {items : List ModelItem} {x : Child} {xs : List Child} → IsOneOf ys x
      → MatchesModel items xs → MatchesModel (opt ys ∷ items) (x ∷ xs)
  takes_none : {ys : List Child} {items : List ModelItem} {xs : List Child} → MatchesModel items xs
      → MatchesModel (opt ys ∷ items) xs
  takes_more : {ys : List Child} {items : List ModelItem} {x : Child} {xs : List Child}
      → IsOneOf ys x
      → MatchesModel (any ys ∷ items) xs → MatchesModel (any ys ∷ items) (x ∷ xs)
  takes_no_more : {ys : List Child} {items : List ModelItem} {xs : List Child}
      → MatchesModel items xs → MatchesModel (any ys ∷ items) xs

-- ---- elements by their expanded names

-- declarations, outermost first
abbrev pub Scope : Type 0
Scope = List (List Decl)

-- the namespace of an element's name, in the scope that ends with its own declarations; the empty
-- text where it has none
abbrev pub element_namespace : Scope → Name → List ℕ
element_namespace c n = unwrap_or (bound_uri c n.prefix) []

-- the kind of a known child
abbrev pub known_kind : Child → Option ElementKind
known_kind (known kind) = Some kind
known_kind foreign = None
known_kind stray = None

-- the kinds that the model of a kind names, in its order
abbrev pub item_children : ModelItem → List Child
item_children (one ys) = ys
item_children (opt ys) = ys
item_children (any ys) = ys

-- the child kind that has this local name
unfoldable pub child_kind : ElementKind → List ℕ → Option ElementKind
child_kind row local =
    find (λ kind. bytes_eq local (local_name_of kind))
    (filter_map known_kind (flat_map item_children (items_in (content_model_of row))))

-- the child kind by namespace and local name
abbrev pub kind_by_name : ElementKind → List ℕ → List ℕ → Option ElementKind
kind_by_name row space local =
    if bytes_eq space (namespace_of_children row) then child_kind row local else None

-- the namespace is foreign: another one, and not none
abbrev pub is_foreign : ElementKind → List ℕ → Bool
is_foreign row space = not (bytes_eq space (namespace_of_children row)) && not (bytes_eq space [])

-- the kind of a child, by the kind of its parent; foreign elements have none
unfoldable pub kind_of : ElementKind → Scope → Name → Option ElementKind
kind_of row c n = kind_by_name row (element_namespace c n) n.local

-- what a child is in its parent
unfoldable pub child_class_of : ElementKind → Scope → Name → Child
child_class_of row c n =
    option_map_or known (kind_by_name row (element_namespace c n) n.local)
    (if is_foreign row (element_namespace c n) then foreign else stray)

-- the name of a document's root
unfoldable pub is_root : Usage → Scope → Name → Bool
is_root u c n =
    bytes_eq (element_namespace c n) (namespace_of_children (root_kind u))
    && bytes_eq n.local (local_name_of (root_kind u))
