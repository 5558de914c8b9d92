-- What private calls on a log do.
use Rattle.std.specs.Prelude.{◌≡◌, ℕ, List, [], ◌∷◌, ◌++◌, length, map, true, Some, option_map}
use Rattle.std.specs.List.{AllByRecursion}
use Rattle.log_entries.specs.Entries.{Entry, FitsEntryForm, entries_bytes}
use Rattle.folder_log.specs.declared.entry_kinds.EntryKind.TheVariants.{SnapshotEnd}
use Rattle.folder_log.specs.FileFormat.{kind_byte, part_entry}
use Rattle.folder_log.specs.FolderLogs.{LogParts}

-- the end of the snapshot; its number is the number of the first change
abbrev pub snapshot_end_entry : ℕ → Entry
snapshot_end_entry number = record { number = number; content = kind_byte SnapshotEnd ∷ [] }

-- all but the histories, the next number and whether it is torn or stopped
pub record KeepsMarksAndDraft (old new : LogParts) : Type 0 where
  pub mark : new.mark ≡ old.mark
  pub draft_mark : new.draft_mark ≡ old.draft_mark
  pub draft : new.history.draft ≡ old.history.draft
  pub is_begun : new.is_begun ≡ old.is_begun
  pub has_draft : new.has_draft ≡ old.has_draft

-- all but the histories, and whether there is a draft
pub record KeepsMarksAndNumber (old new : LogParts) : Type 0 where
  pub mark : new.mark ≡ old.mark
  pub draft_mark : new.draft_mark ≡ old.draft_mark
  pub next : new.next ≡ old.next
  pub is_begun : new.is_begun ≡ old.is_begun
  pub is_torn : new.is_torn ≡ old.is_torn
  pub is_stopped : new.is_stopped ≡ old.is_stopped

-- The draft is on the disk, with this entry after what it had.
pub record HasEndedDraft (old new : LogParts) (entry : List ℕ) : Type 0 where
  pub draft : new.folder.now.draft ≡ option_map (λ begun. begun ++ entry) old.folder.now.draft
  pub ready : new.folder.now.is_ready ≡ true

-- The draft is on the disk, with the entries of its parts and an end with this number.
pub record HasReadyDraft (p : LogParts) (first : ℕ) : Type 0 where
  pub marked : length p.draft_mark ≡ 8
  pub draft : p.folder.now.draft
      ≡ Some (entries_bytes p.draft_mark
      (map part_entry p.history.draft ++ snapshot_end_entry first ∷ []))
  pub fit : AllByRecursion FitsEntryForm
      (map part_entry p.history.draft ++ snapshot_end_entry first ∷ [])
  pub ready : p.folder.now.is_ready ≡ true
