-- Where a reference leads. RFC 4826, sections 3.4.5 and 4.4.5: to the element that its target
-- addresses (RFC 4825, section 6), if that is the address of an element in the same user's
-- documents of lists in this store, and the element is an entry or a list, as the reference
-- requires.
use Rattle.std.specs.Prelude.{◌≡◌, ℕ, Bool, ◌&&◌, List, Option, None, Some, Result, Ok, option_map}
use Rattle.std.specs.Prelude.{option_and_then, encode_utf8_all, if◌then◌else◌}
use Rattle.xml_tree.specs.Tree.{Tree}
use Rattle.node_select.specs.Selection.{selected_element_path}
use Rattle.doc_names.specs.NameEquality.{same_auid, same_home}
use Rattle.doc_names.specs.declared.doc_id.Auid.TheVariants as auids
use Rattle.doc_names.specs.declared.doc_id.Home.{Home}
use Rattle.doc_names.specs.declared.doc_id.DocId.{DocId}
use Rattle.xcap_uri.specs.Targets.{IsTargetResult, is_element_end}
use Rattle.xcap_uri.specs.declared.fault.UriFault.{UriFault}
use Rattle.xcap_uri.specs.declared.target.Target.{Target}
use Rattle.xcap_uri.specs.declared.target.Target.TheVariants.{Node}
use Rattle.store_core.specs.Contents.{StoredDocument}
use Rattle.store_core.specs.DocumentChanges.{find_document, stored_id}
use Rattle.list_resolve.specs.declared.document_place.Place.{Place}
use Rattle.list_resolve.specs.declared.reference.ReferenceTarget.{ReferenceTarget}
use Rattle.list_resolve.specs.declared.reference.Reference.{Reference}
use Rattle.list_resolve.specs.References.{is_wanted}
use Rattle.list_resolve.specs.ScopedElements.{ScopedElement, list_element}

-- the context in which references are resolved: the stored documents, the XCAP root, and the home
-- whose documents they may lead to
pub record ResolutionContext : Type 0 where
  pub documents : List StoredDocument
  pub root : List ℕ
  pub home : Home

-- an element that a reference leads to, and its place
pub record ResolvedReference : Type 0 where
  pub place : Place
  pub scoped_element : ScopedElement

-- a document of lists of this home
abbrev pub is_own_document : Home → DocId → Bool
is_own_document home doc = same_auid doc.auid auids.ResourceLists && same_home doc.home home

-- the element at a path of a document with this name, if it is of the expected kind
abbrev pub resolve_at : ReferenceTarget → List ℕ → Tree → List ℕ → Option ResolvedReference
resolve_at wanted name root path =
    option_and_then (λ scoped_element.
    if is_wanted wanted scoped_element.kind
    then Some
    (record { place = record { name = name; path = path }; scoped_element = scoped_element })
    else None)
    (list_element root path)

-- the tree of a document, if it is stored
abbrev pub stored_tree : List StoredDocument → DocId → Option Tree
stored_tree hs doc = option_map (λ h. h.tree) (find_document stored_id hs doc)

-- where a target with this meaning leads: the address of a node, to what its selector selects
abbrev pub resolve_target : ResolutionContext → ReferenceTarget → Result Target UriFault
    → Option ResolvedReference
resolve_target g wanted (Ok (Node doc selector)) =
    if is_own_document g.home doc && is_element_end selector.end
    then option_and_then
    (λ root. option_and_then (resolve_at wanted doc.name root)
    (selected_element_path selector.steps root))
    (stored_tree g.documents doc)
    else None
resolve_target g wanted _ = None

-- this map says of every reference where it leads, by a meaning of its target
abbrev pub ResolvesReferences : ResolutionContext → (Reference → Option ResolvedReference) → Type 0
ResolvesReferences g resolve_reference =
    (r : Reference)
    → (read : Result Target UriFault) × IsTargetResult g.root (encode_utf8_all r.target) read
    × (resolve_reference r ≡ resolve_target g r.wanted read)
