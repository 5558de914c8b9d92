-- A document that is prepared to be put again, with an etag that it had before.
use Rattle.std.specs.Prelude.{◌≡◌, ◌≢◌, ℕ, ◌+◌, ◌<◌, ◌≤◌, ◌==◌, Bool, true, false, List, [], ◌∷◌, None}
use Rattle.std.specs.Prelude.{if◌then◌else◌}
use Rattle.std.specs.List.{AllByRecursion}
use Rattle.doc_names.specs.declared.doc_id.DocId.{DocId}
use Rattle.store_core.specs.declared.entry.Entry.{Entry}
use Rattle.xml_tree.specs.Tree.{Tree}
use Rattle.usage_docs.specs.Services.{document_len}
use Rattle.edit_ops.specs.InsertedElements.{inserted_element}
use Rattle.store_core.specs.declared.step.EntryStep.TheVariants.{Make}
use Rattle.store_core.specs.State.{Document, State, new_document}
use Rattle.store_core.specs.Contents.{Represents, StoreContents}
use Rattle.store_core.specs.ValidStates.{IsValidState, document_addresses}
use Rattle.store_core.specs.DocumentChanges.{find_document, stored_id}
use Rattle.store_core.specs.PreparedChanges.{PreparedChange, total_len}
use Rattle.store_core.specs.StoreViews.{new_entry}
use Rattle.store_core.specs.RestoredDocuments.{HasNoRecords, state_with}

-- the tree that it puts, and the document that it restores
abbrev pub restored_root : PreparedChange → Tree
restored_root p = inserted_element p.note.change

abbrev pub restored_document : PreparedChange → Document
restored_document p = new_document p.doc p.note.next (restored_root p)

-- no document has this etag, and the next number is above it
pub record IsFreeTag (c : StoreContents) (tag : ℕ) : Type 0 where
  pub low : 1 ≤ tag
  pub below : tag < c.next
  pub fresh : AllByRecursion (λ h. tag ≢ h.tag) c.documents

-- nothing is against it
pub record IsPlannedRestore (c : StoreContents) (p : PreparedChange) : Type 0 where
  pub step : p.step ≡ Make p.doc (new_entry p.note.next (restored_root p))
  pub leaves : p.leaves ≡ []
  pub enters : p.enters ≡ document_addresses p.doc.auid (restored_root p)
  pub total : p.total ≡ total_len c + document_len (restored_root p)
  pub absent : find_document stored_id c.documents p.doc ≡ None
  pub free : IsFreeTag c p.note.next
  pub alone : HasNoRecords c
  pub valid : (m : State) → Represents c m → IsValidState m
      → IsValidState (state_with (restored_document p) m)

-- no document has this etag
abbrev pub is_unused_tag : ℕ → List (DocId × Entry) → Bool
is_unused_tag tag [] = true
is_unused_tag tag (e ∷ es) = if e.1.tag == tag then false else is_unused_tag tag es
