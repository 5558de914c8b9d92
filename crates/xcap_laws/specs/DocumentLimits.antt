-- The limits of documents: those of a document in figures, those of all and of one home as they
-- are given. They are this server's own; no standard sets any.
use Rattle.std.specs.Prelude.{◌≡◌, ◌⊎◌, ℕ, ◌≤◌, List, [], ◌++◌, length, map, sum_by, encode_utf8_all}
use Rattle.std.specs.List.{AllByRecursion}
use Rattle.xml_tree.specs.Print.{document_print}
use Rattle.xml_tree.specs.Tree.{Tree, height}
use Rattle.doc_names.specs.declared.doc_id.Home.{Home}
use Rattle.edit_ops.specs.Notes.{Note}
use Rattle.edit_ops.specs.DiffOperations.{weight}
use Rattle.store_core.specs.Contents.{contents_of, stored_document}
use Rattle.store_core.specs.DocumentChanges.{document_id}
use Rattle.store_core.specs.HomeLimits.{IsWithin, documents_of_home}
use Rattle.store_core.specs.State.{Document, State, Version, notes, versions}
use Rattle.store_core.specs.declared.limits.Limits.{Limits}

-- the number of bytes of a printed document: the length of the bytes themselves, which
-- `document_len` of usage_docs says as a sum, without spelling them
abbrev pub printed_len : Tree → ℕ
printed_len t = length (encode_utf8_all (document_print t))

-- a version of a document: its levels, its bytes, and its tag
pub record IsVersionWithinLimits (v : Version) : Type 0 where
  pub levels : height v.tree ≤ 64
  pub bytes : printed_len v.tree ≤ 262144
  pub tag : (1 ≤ v.tag) × (v.tag ≤ 18446744073709551615)

-- the retained records, of all change records of a document: the newest records, and at least the
-- newest; at most 64; and their operations have at most 65,536 bytes together, unless it is one
pub record AreRetainedRecords (all retained : List Note) : Type 0 where
  pub newest : (dropped : List Note) × (all ≡ dropped ++ retained)
  pub some : retained ≡ [] → all ≡ []
  pub few : length retained ≤ 64
  pub light : (sum_by weight retained ≤ 65536) ⊎ (length retained ≡ 1)

-- a document: each of its versions, and the change records that the store has of it
pub record IsDocumentWithinLimits (d : Document) : Type 0 where
  pub versions_within : AllByRecursion IsVersionWithinLimits (versions d)
  pub records : AreRetainedRecords (notes d) (stored_document d).notes

-- the documents of one home: their number, and the bytes of their present versions together
pub record IsHomeWithinLimits (limits : Limits) (ds : List Document) : Type 0 where
  pub few : IsWithin limits.home_documents (length ds)
  pub room : IsWithin limits.home_bytes (sum_by (λ h. printed_len h.tree) (map stored_document ds))

-- a state: each document, their number, and the bytes of their present versions together; and each
-- home
pub record KeepsLimits (limits : Limits) (m : State) : Type 0 where
  pub each : AllByRecursion IsDocumentWithinLimits m.documents
  pub few : length m.documents ≤ limits.documents
  pub room : sum_by (λ h. printed_len h.tree) (contents_of m).documents ≤ limits.bytes
  pub homes : (home : Home) → IsHomeWithinLimits limits (documents_of_home document_id m.documents home)
