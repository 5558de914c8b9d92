-- The resource of an address. RFC 4825, section 6: a document. Documents under `global` are
-- computed (RFC 4825, section 12, and RFC 4826, sections 4.4.7 and 4.4.8).
use Rattle.std.specs.Prelude.{◌≡◌, ℕ, ◌-◌, Bool, true, false, List, Option, option_map, nat_lt}
use Rattle.std.specs.Prelude.{if◌then◌else◌}
use Rattle.std.specs.Option.{option_map_or}
use Rattle.std.specs.Str.{bytes_eq}
use Rattle.xml_tree.specs.Tree.{Tree}
use Rattle.usage_docs.specs.Services.{index_of_documents, document_len}
use Rattle.usage_docs.specs.declared.service_index.TheConstants.{INDEX_LIMIT}
use Rattle.usage_docs.specs.Capabilities.{capabilities}
use Rattle.doc_names.specs.declared.doc_id.Auid.{Auid}
use Rattle.doc_names.specs.declared.doc_id.Auid.TheVariants.{ResourceLists, RlsServices, XcapCaps}
use Rattle.doc_names.specs.declared.doc_id.Home.{Home}
use Rattle.doc_names.specs.declared.doc_id.Home.TheVariants.{Global, User}
use Rattle.doc_names.specs.declared.doc_id.DocId.{DocId}
use Rattle.store_core.specs.DocumentChanges.{find_document, stored_id}
use Rattle.store_core.specs.Contents.{StoredDocument, StoreContents}
use Rattle.store_core.specs.Indexes.{AreIndexTrees, index}

-- the current tree and tag of the document with this name, if it is stored
abbrev pub version_of : StoreContents → DocId → Option (Tree × ℕ)
version_of c id =
    option_map {U = Tree × ℕ} (λ (h : StoredDocument). (h.tree, h.tag))
    (find_document stored_id c.documents id)

-- nothing; a computed document that would be longer than the limit; or a document with its tag
pub data Resource : Type 0 where
  absent : Resource
  beyond_limit : Resource
  there : Tree → ℕ → Resource

-- the index of services of the stored documents
abbrev pub IsIndexOfServices : StoreContents → Tree → Type 0
IsIndexOfServices c root =
    (trees : List Tree) × AreIndexTrees c trees × (root ≡ index_of_documents trees)

-- under `global` there are the index of services, whose tag is the last number given, and the
-- capabilities, whose tag is 0
abbrev pub IsGlobalResource : StoreContents → Auid → Bool → Resource → Type 0
IsGlobalResource c ResourceLists is_index r = r ≡ absent
IsGlobalResource c RlsServices false r = r ≡ absent
IsGlobalResource c RlsServices true r =
    (root : Tree) × IsIndexOfServices c root
    × (r
    ≡ (if nat_lt INDEX_LIMIT (document_len root) then beyond_limit else there root (c.next - 1)))
IsGlobalResource c XcapCaps false r = r ≡ absent
IsGlobalResource c XcapCaps true r = r ≡ there capabilities 0

abbrev pub IsResourceInHome : StoreContents → DocId → Home → Resource → Type 0
IsResourceInHome c id Global r = IsGlobalResource c id.auid (bytes_eq id.name index) r
IsResourceInHome c id (User xui) r =
    r ≡ option_map_or (λ held. there held.0 held.1) (version_of c id) absent

-- the resource of a document's name
abbrev pub IsResourceOf : StoreContents → DocId → Resource → Type 0
IsResourceOf c id r = IsResourceInHome c id id.home r
