-- How a change is planned: why a tree is refused, from what was found in it; the result of
-- planning; what a step makes of the entries.
use Rattle.std.specs.Prelude.{◌≡◌, ℕ, ◌+◌, min, nat_lt, Bool, true, false, not, List, [], ◌∷◌, ◌++◌}
use Rattle.std.specs.Prelude.{map, filter, Option, None, Some, option_map, Result, Ok, Err}
use Rattle.std.specs.Prelude.{if◌then◌else◌}
use Rattle.std.specs.Map.{lookup}
use Rattle.std.specs.Option.{option_or}
use Rattle.xml_names.specs.Limits.{u64_max}
use Rattle.xml_tree.specs.Tree.{Tree}
use Rattle.usage_docs.specs.Services.{document_len}
use Rattle.usage_docs.specs.declared.key_repeats.Clash.{Clash}
use Rattle.usage_docs.specs.declared.schema_table.Key.TheVariants.{Uri}
use Rattle.doc_names.specs.NameEquality.{same_id}
use Rattle.doc_names.specs.declared.doc_id.DocId.{DocId}
use Rattle.edit_ops.specs.Changes.{FitsTree, edited}
use Rattle.edit_ops.specs.PrintedLengths.{element_len}
use Rattle.edit_ops.specs.declared.change.Change.{Change}
use Rattle.edit_ops.specs.Notes.{Note, note_of}
use Rattle.store_core.specs.declared.limits.TheConstants.{MAX_DOCUMENT_BYTES}
use Rattle.store_core.specs.declared.entry.Entry.{Entry}
use Rattle.store_core.specs.declared.staged_tree.StagedTree.{StagedTree}
use Rattle.store_core.specs.declared.step.EntryStep.{EntryStep}
use Rattle.store_core.specs.declared.step.EntryStep.TheVariants.{Make, Edit, End}
use Rattle.store_core.specs.declared.refusal.StoreRefusal.{StoreRefusal}
use Rattle.store_core.specs.declared.refusal.StoreRefusal.TheVariants.{ServiceTaken, TooLarge}
use Rattle.store_core.specs.declared.refusal.StoreRefusal.TheVariants.{TooMany, StoreFull}
use Rattle.store_core.specs.Contents.{StoredDocument, StoreContents}
use Rattle.store_core.specs.DocumentChanges.{refusal_of_number, refusal_of_tree, change_result}
use Rattle.store_core.specs.DocumentChanges.{find_document}
use Rattle.store_core.specs.DocumentChanges.{stored_id, refusal_if}
use Rattle.store_core.specs.ValidStates.{document_addresses}
use Rattle.store_core.specs.TreeChanges.{IsUnsharedIfInPlace, IsStagedTreeFor}
use Rattle.store_core.specs.inner.StoreMemory.{IsUpdatedEntry}
use Rattle.store_core.specs.declared.change_builder.Outline.{Outline}
use Rattle.store_core.specs.inner.Prints.{IsInsertedPrint, IsPrintOf}
use Rattle.store_core.specs.PreparedChanges.{ReplacesAddresses, IsPlanned, PreparedChange}
use Rattle.store_core.specs.PreparedChanges.{total_len}

-- by the index among its services of the first address that another document has; its length;
-- whether one more document would be too many; the length of the other documents together; and the
-- limit of all lengths together
abbrev pub refusal_from_checks : Option ℕ → ℕ → Bool → ℕ → ℕ → Option StoreRefusal
refusal_from_checks place len is_full others most =
    option_or (option_map (λ clash. ServiceTaken clash)
    (option_map (λ i. let clash : Clash = record { path = i ∷ []; key = Uri } in clash) place))
    (option_or (refusal_if (nat_lt MAX_DOCUMENT_BYTES len) (TooLarge len))
    (option_or (refusal_if is_full TooMany)
    (refusal_if (nat_lt most (others + len)) (StoreFull (others + len)))))

-- a document is stored with the tree, the etag and the length of this entry
abbrev pub IsStoredAs : StoreContents → DocId → Entry → Type 0
IsStoredAs c doc v =
    (h : StoredDocument) × (find_document stored_id c.documents doc ≡ Some h)
    × (h.tree ≡ v.tree.root) × (h.tag ≡ v.tag) × (v.len ≡ document_len v.tree.root)

-- the outline of a new document with this root, against which there is no reason
pub record IsCreationOutline (c : StoreContents) (doc : DocId) (root : Tree)
    (o : Outline) : Type 0 where
  pub free : refusal_of_tree c doc true root ≡ None
  pub numbered : refusal_of_number c ≡ None
  pub number : o.number ≡ c.next
  pub print : IsPrintOf root o.put.print
  pub len : o.len ≡ document_len root
  pub total : o.total ≡ total_len c + document_len root
  pub leaves : o.leaves ≡ []
  pub enters : o.enters ≡ document_addresses doc.auid root

-- the outline of a document stored with the tree t after an edit, against which there is no reason
pub record IsEditOutline (c : StoreContents) (doc : DocId) (t : Tree) (change : Change)
    (o : Outline) : Type 0 where
  pub free : refusal_of_tree c doc false (edited t change) ≡ None
  pub numbered : refusal_of_number c ≡ None
  pub number : o.number ≡ c.next
  pub put : o.put.len ≡ min (element_len change) u64_max
  pub print : IsInsertedPrint change o.put.print
  pub len : o.len ≡ document_len (edited t change)
  pub total : o.total + document_len t ≡ total_len c + o.len
  pub addresses : ReplacesAddresses (document_addresses doc.auid t) o.leaves o.enters
      (document_addresses doc.auid (edited t change))

-- the edit of a change record in the tree t, after which the document has this length
abbrev pub IsEditStep : Tree → Note → ℕ → EntryStep → Type 0
IsEditStep t note len step =
    (staged : StagedTree) × IsStagedTreeFor t note.change staged × (step ≡ Edit staged note len)

-- an edit of this entry's document, by its outline, with its change record and its memory, before
-- the store has reserved its own
abbrev pub IsPreparedEdit : DocId → Entry → Change → Outline → PreparedChange → Type 0
IsPreparedEdit doc v change o p =
    (note : Note) × (step : EntryStep)
    × (note ≡ note_of v.tag o.number v.tree.root change) × IsEditStep v.tree.root note o.len step
    × (p ≡ record {
      doc = doc;
      note = note;
      step = step;
      leaves = o.leaves;
      enters = o.enters;
      total = o.total;
    })

-- the result of planning a change: the prepared change that was asked for; or the reason against
-- it
unfoldable pub IsPlanResult : StoreContents → DocId → Change → Result PreparedChange StoreRefusal
    → Type 0
IsPlanResult c doc change (Ok p) = (p.doc ≡ doc) × (p.note.change ≡ change) × IsPlanned c p
IsPlanResult c doc change (Err e) = change_result c doc change ≡ Err e

-- what a step changes: the entries, of which document, and the number of the change
pub record StepContext : Type 0 where
  pub entries : List (DocId × Entry)
  pub doc : DocId
  pub number : ℕ

-- the entries after a step, and the number under which the document's addresses are registered
abbrev pub TakesStep : StepContext → EntryStep → ℕ → List (DocId × Entry) → Type 0
TakesStep at (Make key entry) created new =
    (new ≡ at.entries ++ (key, entry) ∷ []) × (created ≡ entry.created)
TakesStep at (Edit staged kept len) created new =
    (v : Entry) × (w : Entry)
    × (lookup (same_id at.doc) at.entries ≡ Some v) × IsUpdatedEntry v at.number kept len w
    × (new ≡ map (λ e. if same_id at.doc e.0 then (e.0, w) else e) at.entries)
    × (created ≡ w.created)
TakesStep at End created new = new ≡ filter (λ e. not (same_id at.doc e.0)) at.entries

-- what a step requires of the entries
abbrev pub CanTakeStep : List (DocId × Entry) → DocId → EntryStep → Type 0
CanTakeStep old doc (Make key entry) = lookup (same_id key) old ≡ None
CanTakeStep old doc (Edit staged kept len) =
    (v : Entry) × (lookup (same_id doc) old ≡ Some v) × FitsTree v.tree.root kept.change
    × IsStagedTreeFor v.tree.root kept.change staged × IsUnsharedIfInPlace staged v.tree.own
CanTakeStep old doc End = Unit {0}
