-- The invariant of a machine's state, for every version of every document.
use Rattle.std.specs.Prelude.{◌≡◌, ◌≢◌, ℕ, ◌<◌, ◌≤◌, List, [], ◌∷◌, length, map, sum_by, flat_map}
use Rattle.std.specs.Prelude.{Option, None, Some}
use Rattle.std.specs.List.{AllByRecursion}
use Rattle.xml_tree.specs.Tree.{Tree, height}
use Rattle.xml_tree.specs.Proper.{IsProperTree}
use Rattle.xml_names.specs.declared.limits.TheConstants.{MAX_LEVELS}
use Rattle.usage_docs.specs.Validation.{HasFirstFault}
use Rattle.usage_docs.specs.Services.{document_len, service_uris}
use Rattle.doc_names.specs.declared.usages.Usage.{Usage}
use Rattle.doc_names.specs.Usages.{usage_of}
use Rattle.doc_names.specs.DocIds.{IsAddressable}
use Rattle.doc_names.specs.declared.doc_id.Auid.{Auid}
use Rattle.doc_names.specs.declared.doc_id.Auid.TheVariants.{ResourceLists, RlsServices, XcapCaps}
use Rattle.doc_names.specs.declared.doc_id.Home.{Home}
use Rattle.doc_names.specs.declared.doc_id.Home.TheVariants.{Global, User}
use Rattle.edit_ops.specs.Changes.{FitsTree, edited}
use Rattle.edit_ops.specs.Notes.{Note, note_of}
use Rattle.store_core.specs.declared.limits.Limits.{Limits}
use Rattle.store_core.specs.declared.limits.TheConstants.{MAX_DOCUMENT_BYTES, MAX_BYTE_LIMIT}
use Rattle.store_core.specs.declared.limits.TheConstants.{MAX_DOCUMENT_LIMIT}
use Rattle.store_core.specs.HomeLimits.{IsWithin, documents_of_home}
use Rattle.store_core.specs.State.{Document, State, Version, versions}

-- ---- names

-- no two items are equal
abbrev pub AreDistinct : {A : Type 0} → List A → Type 0
AreDistinct [] = Unit {0}
AreDistinct (x ∷ xs) = AllByRecursion (λ y. x ≢ y) xs × AreDistinct xs

abbrev pub IsUserHome : Home → Type 0
IsUserHome Global = ⊥
IsUserHome (User xui) = Unit {0}

-- ---- trees

-- a tree that may be a document of the application usage
pub record IsSoundDocument (usage : Usage) (t : Tree) : Type 0 where
  pub proper : IsProperTree [] t
  pub low : height t ≤ MAX_LEVELS
  pub faultless : HasFirstFault usage t None
  pub short : document_len t ≤ MAX_DOCUMENT_BYTES

abbrev pub IsSoundDocumentFor : Option Usage → Tree → Type 0
IsSoundDocumentFor None t = ⊥
IsSoundDocumentFor (Some usage) t = IsSoundDocument usage t

-- ---- versions, the newest first

-- the first version of a document has no change record; each other one is what its record's
-- change, which fits the earlier tree, makes of that tree, and its record says so; and its etag is
-- greater
abbrev pub AreSuccessiveVersions : Version → List Version → Type 0
AreSuccessiveVersions v [] = v.note ≡ None
AreSuccessiveVersions v (w ∷ ws) =
    ((n : Note) × (v.note ≡ Some n) × FitsTree w.tree n.change × (v.tree ≡ edited w.tree n.change)
    × (n ≡ note_of w.tag v.tag w.tree n.change))
    × (w.tag < v.tag)
    × AreSuccessiveVersions w ws

-- ---- documents

pub record IsValidHistory (next : ℕ) (d : Document) : Type 0 where
  pub readable : IsAddressable d.id
  pub users : IsUserHome d.id.home
  pub sound : AllByRecursion (λ v. IsSoundDocumentFor (usage_of d.id.auid) v.tree) (versions d)
  pub tags : AllByRecursion (λ v. (1 ≤ v.tag) × (v.tag < next)) (versions d)
  pub follows : AreSuccessiveVersions d.now d.earlier

-- the service addresses of the present document; of the other AUIDs there are none
abbrev pub document_addresses : Auid → Tree → List (List ℕ)
document_addresses ResourceLists t = []
document_addresses RlsServices t = service_uris t
document_addresses XcapCaps t = []

abbrev pub all_addresses : List Document → List (List ℕ)
all_addresses ds = flat_map (λ d. document_addresses d.id.auid d.now.tree) ds

-- ---- the limits

-- numbers and lengths within the limits can be counted by a store
abbrev pub AreCountable : Limits → Type 0
AreCountable limits = (limits.documents ≤ MAX_DOCUMENT_LIMIT) × (limits.bytes ≤ MAX_BYTE_LIMIT)

-- the documents of one home are no more, and have no more bytes together, than a home may have
pub record IsWithinHomeLimits (limits : Limits) (ds : List Document) : Type 0 where
  pub few : IsWithin limits.home_documents (length ds)
  pub room : IsWithin limits.home_bytes (sum_by (λ d. document_len d.now.tree) ds)

-- so are those of each home
abbrev pub AreHomesWithinLimits : Limits → List Document → Type 0
AreHomesWithinLimits limits ds =
    (home : Home) → IsWithinHomeLimits limits (documents_of_home (λ d. d.id) ds home)

-- ---- the whole state

pub record IsValidState (state : State) : Type 0 where
  pub started : 1 ≤ state.next
  pub documents : AllByRecursion (IsValidHistory state.next) state.documents
  pub names : AreDistinct (map (λ d. d.id) state.documents)
  -- no two versions have the same etag, in one document or in two
  pub tags : AreDistinct (flat_map (λ d. map (λ v. v.tag) (versions d)) state.documents)
  pub services : AreDistinct (all_addresses state.documents)
  pub countable : AreCountable state.limits
  pub few : length state.documents ≤ state.limits.documents
  pub room : sum_by (λ d. document_len d.now.tree) state.documents ≤ state.limits.bytes
  pub homes : AreHomesWithinLimits state.limits state.documents
