-- A prepared change, and what makes it ready for a store.
use Rattle.std.specs.Prelude.{◌≡◌, ℕ, ◌+◌, ◌≤◌, Bool, List, [], ◌++◌, length, sum_by, Option, None}
use Rattle.std.specs.Prelude.{Some, Result, Ok, Err, MatchResult}
use Rattle.std.specs.Map.{lookup}
use Rattle.usage_docs.specs.Services.{document_len}
use Rattle.doc_names.specs.NameEquality.{same_id}
use Rattle.doc_names.specs.declared.doc_id.DocId.{DocId}
use Rattle.edit_ops.specs.Changes.{edited}
use Rattle.edit_ops.specs.declared.change.Change.TheVariants.{CreateDocument, RemoveDocument}
use Rattle.edit_ops.specs.Notes.{Note, note_of}
use Rattle.store_core.specs.declared.step.EntryStep.{EntryStep}
use Rattle.store_core.specs.declared.step.EntryStep.TheVariants.{Make, Edit, End}
use Rattle.store_core.specs.Contents.{StoredDocument, StoreContents}
use Rattle.store_core.specs.ValidStates.{document_addresses}
use Rattle.store_core.specs.ChangePreconditions.{MayRequest}
use Rattle.store_core.specs.TreeChanges.{IsUnsharedIfInPlace, IsStagedTreeFor}
use Rattle.store_core.specs.DocumentChanges.{Edits, change_kind, change_result, contents_after}
use Rattle.store_core.specs.DocumentChanges.{find_document}
use Rattle.store_core.specs.DocumentChanges.{stored_id}
use Rattle.store_core.specs.StoreViews.{StoreView, new_entry}

-- ---- a prepared change

-- the document, the change record, the step on the entries, the removed and the added addresses,
-- and the total after it
pub record PreparedChange : Type 0 where
  pub doc : DocId
  pub note : Note
  pub step : EntryStep
  pub leaves : List (List ℕ)
  pub enters : List (List ℕ)
  pub total : ℕ

-- some addresses are replaced by these, between the same others
abbrev pub ReplacesAddresses : List (List ℕ) → List (List ℕ) → List (List ℕ) → List (List ℕ)
    → Type 0
ReplacesAddresses old leaves enters new =
    (before : List (List ℕ)) × (behind : List (List ℕ))
    × (old ≡ before ++ (leaves ++ behind)) × (new ≡ before ++ (enters ++ behind))

abbrev pub total_len : StoreContents → ℕ
total_len c = sum_by (λ h. document_len h.tree) c.documents

-- the step is the change's
abbrev pub IsStepOf : StoreContents → PreparedChange → EntryStep → Type 0
IsStepOf c p (Make key entry) =
    (find_document stored_id c.documents p.doc ≡ None)
    × (p.note.change ≡ CreateDocument entry.tree.root) × (entry ≡ new_entry c.next entry.tree.root)
    × (p.leaves ≡ [])
    × (p.enters ≡ document_addresses p.doc.auid entry.tree.root)
    × (p.total ≡ total_len c + document_len entry.tree.root)
    × (key ≡ p.doc)
IsStepOf c p (Edit staged kept len) =
    (h : StoredDocument) × (find_document stored_id c.documents p.doc ≡ Some h)
    × (change_kind p.note.change ≡ Edits) × IsStagedTreeFor h.tree p.note.change staged
    × (len ≡ document_len (edited h.tree p.note.change)) × (kept ≡ p.note)
    × (p.note ≡ note_of h.tag c.next h.tree p.note.change)
    × ReplacesAddresses (document_addresses p.doc.auid h.tree) p.leaves p.enters
    (document_addresses p.doc.auid (edited h.tree p.note.change))
    × (p.total + document_len h.tree ≡ total_len c + len)
IsStepOf c p End =
    (h : StoredDocument) × (find_document stored_id c.documents p.doc ≡ Some h)
    × (p.note.change ≡ RemoveDocument) × (p.leaves ≡ document_addresses p.doc.auid h.tree)
    × (p.enters ≡ [])
    × (p.total + document_len h.tree ≡ total_len c)

-- it is a change that the store makes, with the record that the store returns
pub record IsPlanned (c : StoreContents) (p : PreparedChange) : Type 0 where
  pub asks : MayRequest c p.doc p.note.change
  pub made : change_result c p.doc p.note.change ≡ Ok (p.note, contents_after c p.doc p.note.change)
  pub number : p.note.next ≡ c.next
  pub step : IsStepOf c p p.step

-- where the step changes the tree of its document in place, and the store has that tree, it is
-- unshared
abbrev pub HasTreeForStep : EntryStep → Option Bool → Type 0
HasTreeForStep (Make key entry) found = Unit {0}
HasTreeForStep (Edit staged kept len) found =
    (own : Bool) → found ≡ Some own → IsUnsharedIfInPlace staged own
HasTreeForStep End found = Unit {0}

-- the change is planned, and the store has reserved the memory for it
pub record IsReady (s : StoreView) (p : PreparedChange) : Type 0 where
  pub planned : IsPlanned s.content p
  pub document : 1 ≤ s.room.documents
  pub services : length p.enters ≤ s.room.services
  pub tree : HasTreeForStep p.step (lookup (same_id p.doc) s.room.trees)

-- ---- a change that is made at once

-- the call makes the stated step; or nothing changes, and the refusal is the stated one
abbrev pub IsChangeOutcome : {N S E : Type 0} → Result (N × S) E → Result N E → S → S → Type 0
IsChangeOutcome stated r old new =
    MatchResult r (λ n. stated ≡ Ok (n, new)) (λ e. (new ≡ old) × (stated ≡ Err e))
