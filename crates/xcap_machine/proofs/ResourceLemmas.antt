-- A name has one resource.
use Rattle.std.proofs.Common.{◌≡◌, ◌-◌, ℕ, nat_lt, Bool, true, false, Option, if◌then◌else◌, refl, ap, ◌∙◌}
use Rattle.std.specs.Option.{option_map_or}
use Rattle.std.specs.Str.{bytes_eq}
use Rattle.xml_tree.specs.Tree.{Tree}
use Rattle.usage_docs.specs.Services.{document_len, index_of_documents}
use Rattle.usage_docs.specs.declared.service_index.TheConstants.{INDEX_LIMIT}
use Rattle.usage_docs.specs.Capabilities.{capabilities}
use Rattle.doc_names.specs.declared.doc_id.Auid.{Auid}
use Rattle.doc_names.specs.declared.doc_id.Auid.TheVariants.{ResourceLists, RlsServices, XcapCaps}
use Rattle.doc_names.specs.declared.doc_id.Home.{Home}
use Rattle.doc_names.specs.declared.doc_id.Home.TheVariants.{Global, User}
use Rattle.doc_names.specs.declared.doc_id.DocId.{DocId}
use Rattle.store_core.specs.Indexes.{index}
use Rattle.store_core.proofs.ByUser.{index_trees, one-index-trees, some-index-trees}
use Rattle.store_core.specs.Contents.{StoreContents as Content}
use Rattle.xcap_machine.specs.Resources.{IsIndexOfServices, IsResourceInHome, IsResourceOf, IsGlobalResource, Resource, absent, beyond_limit, there, version_of}

-- ---- the index

abbrev services : Content → Tree
services c = index_of_documents (index_trees c)

is_services : (c : Content) → IsIndexOfServices c (services c)
is_services c = (index_trees c, some-index-trees c, refl)

only_services : (c : Content) (root : Tree) → IsIndexOfServices c root → root ≡ services c
only_services c root h = h.2 ∙ ap index_of_documents (one-index-trees c h.0 (index_trees c) h.1 (some-index-trees c))

-- ---- a document

abbrev if_within_limit : Tree → ℕ → Resource
if_within_limit t tag = if nat_lt INDEX_LIMIT (document_len t) then beyond_limit else there t tag

abbrev if_held : Option (Tree × ℕ) → Resource
if_held version = option_map_or (λ held. there held.0 held.1) version absent

abbrev under_global : Content → Auid → Bool → Resource
under_global c ResourceLists is_index = absent
under_global c RlsServices false = absent
under_global c RlsServices true = if_within_limit (services c) (c.next - 1)
under_global c XcapCaps false = absent
under_global c XcapCaps true = there capabilities 0

leads_under_global : (c : Content) (auid : Auid) (is_index : Bool) → IsGlobalResource c auid is_index (under_global c auid is_index)
leads_under_global c ResourceLists is_index = refl
leads_under_global c RlsServices false = refl
leads_under_global c RlsServices true = (services c, is_services c, refl)
leads_under_global c XcapCaps false = refl
leads_under_global c XcapCaps true = refl

only_under_global : (c : Content) (auid : Auid) (is_index : Bool) (r : Resource) → IsGlobalResource c auid is_index r → r ≡ under_global c auid is_index
only_under_global c ResourceLists is_index r h = h
only_under_global c RlsServices false r h = h
only_under_global c RlsServices true r h = h.2 ∙ ap (λ (root : Tree). if_within_limit root (c.next - 1)) (only_services c h.0 h.1)
only_under_global c XcapCaps false r h = h
only_under_global c XcapCaps true r h = h

abbrev resource_from : Content → DocId → Home → Resource
resource_from c id Global = under_global c id.auid (bytes_eq id.name index)
resource_from c id (User xui) = if_held (version_of c id)

leads_from : (c : Content) (id : DocId) (home : Home) → IsResourceInHome c id home (resource_from c id home)
leads_from c id Global = leads_under_global c id.auid (bytes_eq id.name index)
leads_from c id (User xui) = refl

only_from : (c : Content) (id : DocId) (home : Home) (r : Resource) → IsResourceInHome c id home r → r ≡ resource_from c id home
only_from c id Global r h = only_under_global c id.auid (bytes_eq id.name index) r h
only_from c id (User xui) r h = h

abbrev pub resource : Content → DocId → Resource
resource c id = resource_from c id id.home

pub leads : (c : Content) (id : DocId) → IsResourceOf c id (resource c id)
leads c id = leads_from c id id.home

pub only_leads : (c : Content) (id : DocId) (r : Resource) → IsResourceOf c id r → r ≡ resource c id
only_leads c id r h = only_from c id id.home r h
