-- The documents that the index of all services lists. RFC 4826, section 4.4.7: the users'
-- documents with the name `index`.
use Rattle.std.specs.Prelude.{◌≡◌, ℕ, Bool, true, List, map, codes, Option, None, Some, chars}
use Rattle.std.specs.Prelude.{filter_map}
use Rattle.std.specs.List.Sorted.{IsSortedByKey, IsStableByKey}
use Rattle.std.specs.Cmp.Lexicographic.{slice_cmp}
use Rattle.std.specs.Ordering.{nat_cmp}
use Rattle.std.specs.Str.{bytes_eq}
use Rattle.xml_tree.specs.Tree.{Tree}
use Rattle.doc_names.specs.declared.doc_id.Auid.{Auid}
use Rattle.doc_names.specs.declared.doc_id.Auid.TheVariants.{RlsServices}
use Rattle.doc_names.specs.declared.doc_id.Home.{Home}
use Rattle.doc_names.specs.declared.doc_id.Home.TheVariants.{Global, User}
use Rattle.store_core.specs.Contents.{StoredDocument, StoreContents}

-- the name of each document of services that the index lists
unfoldable pub index : List ℕ
index = chars (codes "index")

-- a user's name and the tree of the document of services that the index lists
abbrev pub home_entry : Home → Tree → Option (List ℕ × Tree)
home_entry Global t = None
home_entry (User xui) t = Some (xui, t)

abbrev pub entry_if_listed : Auid → Bool → Home → Tree → Option (List ℕ × Tree)
entry_if_listed RlsServices true home t = home_entry home t
entry_if_listed _ _ home t = None

abbrev pub index_entry : StoredDocument → Option (List ℕ × Tree)
index_entry h = entry_if_listed h.id.auid (bytes_eq h.id.name index) h.id.home h.tree

-- these documents in the order of the users' names, by code point; documents of one user keep
-- their order
pub record IsSortedByUser (documents ordered : List (List ℕ × Tree)) : Type 0 where
  pub rises : IsSortedByKey (λ (d : List ℕ × Tree). d.0) (slice_cmp nat_cmp) ordered
  pub keeps : IsStableByKey (λ (d : List ℕ × Tree). d.0) (slice_cmp nat_cmp) documents ordered

-- the trees that the index lists, by the users' names
abbrev pub AreIndexTrees : StoreContents → List Tree → Type 0
AreIndexTrees c trees =
    (ordered : List (List ℕ × Tree)) × IsSortedByUser (filter_map index_entry c.documents) ordered
    × (trees ≡ map (λ d. d.1) ordered)
