-- The service addresses that an edit removes from a document and those that it adds, computed from
-- the change and, for removed ones, from the tree before it. Each service is a child of the root,
-- so a change further down removes and adds none. RFC 4826, sections 4.2 and 4.4.5.
use Rattle.std.specs.Prelude.{◌≡◌, ℕ, Bool, ◌&&◌, List, [], ◌∷◌, ◌++◌, length, option_to_list}
use Rattle.std.specs.Prelude.{slice_get, if◌then◌else◌}
use Rattle.std.specs.Option.{option_map_or}
use Rattle.std.specs.Str.{bytes_eq}
use Rattle.doc_names.specs.declared.doc_id.Auid.{Auid}
use Rattle.doc_names.specs.declared.doc_id.Auid.TheVariants.{ResourceLists, RlsServices, XcapCaps}
use Rattle.edit_ops.specs.declared.change.Change.{Change}
use Rattle.edit_ops.specs.declared.change.Change.TheVariants.{CreateDocument, Insert, Replace}
use Rattle.edit_ops.specs.declared.change.Change.TheVariants.{Remove, SetAttr, DropAttr}
use Rattle.edit_ops.specs.declared.change.Change.TheVariants.{RemoveDocument}
use Rattle.usage_docs.specs.KeyAttributes.{value_of, attribute_name}
use Rattle.usage_docs.specs.Services.{service_uris}
use Rattle.usage_docs.specs.declared.schema_table.Key.TheVariants.{Uri}
use Rattle.xml_tree.specs.Tree.{Tree, child_elements_of}
use Rattle.xml_names.specs.declared.names.Name.{Name}

-- ---- at paths

-- the address of a service
abbrev pub service_address : Tree → List (List ℕ)
service_address e = option_to_list (value_of Uri e.attrs)

-- of the service at the end of this path from the root; a path of no step or of several leads to
-- none
abbrev pub service_address_at : Tree → List ℕ → List (List ℕ)
service_address_at t [] = []
service_address_at t (i ∷ []) = option_map_or service_address (slice_get (child_elements_of t) i) []
service_address_at t (i ∷ j ∷ p) = []

-- of all services that the replacement of the element at this path removes
abbrev pub replaced_addresses : Tree → List ℕ → List (List ℕ)
replaced_addresses t [] = service_uris t
replaced_addresses t (i ∷ p) = service_address_at t (i ∷ p)

-- of all services that this element, put at this path, adds
abbrev pub addresses_put_at : List ℕ → Tree → List (List ℕ)
addresses_put_at [] e = service_uris e
addresses_put_at (i ∷ []) e = service_address e
addresses_put_at (i ∷ j ∷ p) e = []

-- of the service that this element, inserted under the one at this path, adds
abbrev pub added_address : List ℕ → Tree → List (List ℕ)
added_address [] e = service_address e
added_address (i ∷ p) e = []

-- the value, if it is written at a service
abbrev pub address_set_at : List ℕ → List ℕ → List (List ℕ)
address_set_at [] value = []
address_set_at (i ∷ []) value = value ∷ []
address_set_at (i ∷ j ∷ p) value = []

-- the name of the attribute with a service's address
abbrev pub is_uri_name : Name → Bool
is_uri_name n = bytes_eq n.prefix [] && bytes_eq n.local (attribute_name Uri)

-- ---- of an edit of a document of services. An address can't be removed, since a service without
-- one isn't valid.

abbrev pub removed_service_addresses : Tree → Change → List (List ℕ)
removed_service_addresses t (CreateDocument root) = []
removed_service_addresses t (Insert parent gap element) = []
removed_service_addresses t (Replace p element) = replaced_addresses t p
removed_service_addresses t (Remove p) = service_address_at t p
removed_service_addresses t (SetAttr p name value) =
    if is_uri_name name then service_address_at t p else []
removed_service_addresses t (DropAttr p name) = []
removed_service_addresses t RemoveDocument = []

abbrev pub added_service_addresses : Change → List (List ℕ)
added_service_addresses (CreateDocument root) = []
added_service_addresses (Insert parent gap element) = added_address parent element
added_service_addresses (Replace p element) = addresses_put_at p element
added_service_addresses (Remove p) = []
added_service_addresses (SetAttr p name value) =
    if is_uri_name name then address_set_at p value else []
added_service_addresses (DropAttr p name) = []
added_service_addresses RemoveDocument = []

-- ---- of an edit of any document

abbrev pub removed_addresses_of : Auid → Tree → Change → List (List ℕ)
removed_addresses_of ResourceLists t change = []
removed_addresses_of RlsServices t change = removed_service_addresses t change
removed_addresses_of XcapCaps t change = []

abbrev pub added_addresses_of : Auid → Change → List (List ℕ)
added_addresses_of ResourceLists change = []
added_addresses_of RlsServices change = added_service_addresses change
added_addresses_of XcapCaps change = []

-- the first number of a path; 0 of the empty one
abbrev pub first_path_number : List ℕ → ℕ
first_path_number [] = 0
first_path_number (i ∷ p) = i

-- the number of the first service that is added, where there is one
abbrev pub first_added_number : Change → ℕ
first_added_number (CreateDocument root) = 0
first_added_number (Insert parent gap element) = gap
first_added_number (Replace p element) = first_path_number p
first_added_number (Remove p) = 0
first_added_number (SetAttr p name value) = first_path_number p
first_added_number (DropAttr p name) = 0
first_added_number RemoveDocument = 0

-- ---- before and after

-- these addresses are added after n others, the first at this place: a single one, or all that
-- there are
abbrev pub AreAddedAt : ℕ → ℕ → List (List ℕ) → Type 0
AreAddedAt place others [] = Unit {0}
AreAddedAt place others (uri ∷ []) = others ≡ place
AreAddedAt place others (uri ∷ more ∷ uris) = (others ≡ 0) × (place ≡ 0)

-- some addresses of a document were replaced by those added at this place
pub record AreReplacedAt (place : ℕ) (old leaves enters new : List (List ℕ)) : Type 0 where
  pub before : List (List ℕ)
  pub behind : List (List ℕ)
  pub was : old ≡ before ++ (leaves ++ behind)
  pub becomes : new ≡ before ++ (enters ++ behind)
  pub come : AreAddedAt place (length before) enters
