-- What a restart finds in a file that a crash left. This is the project's own.
use Rattle.std.specs.Prelude.{◌≡◌, ◌≢◌, ◌≤◌, ◌⊎◌, ℕ, List, [], ◌∷◌, ◌++◌, length, take}
use Rattle.std.specs.Prelude.{true, false, Option, Some, IsSomeAnd}
use Rattle.log_disk.specs.FolderStates.{FolderState}
use Rattle.log_disk.specs.Crashes.{CrashMayLeave}
use Rattle.log_entries.specs.Entries.{Entry, entry_bytes, has_entry, entries_bytes, leading_entries}
use Rattle.change_log.specs.LogContents.{Contents, no_contents, next_number}
use Rattle.change_log.specs.LogHistories.{Moment, MayBeFound}
use Rattle.folder_log.specs.FileFormat.{change_entry, contents_of_entries, max_entry_bytes}

-- the mark of a file: its first entry begins with it
abbrev pub mark_of : List ℕ → List ℕ
mark_of file = take 8 file

-- These entries are whole in the file, one after the other. In the bytes after them no entry
-- begins, and they are no longer than one: they are what a write left that a crash cut short.
pub record RestoresEntries (file : List ℕ) (es : List Entry) : Type 0 where
  pub found : (leading_entries (mark_of file) file).0 ≡ es
  pub torn : has_entry (mark_of file) (leading_entries (mark_of file) file).1 ≡ false
  pub short : length (leading_entries (mark_of file) file).1 ≤ max_entry_bytes

-- The contents that a restart finds in the file; an empty file is one in which nothing was written.
abbrev pub IsFoundInFile : List ℕ → Contents → Type 0
IsFoundInFile file c =
    ((file ≡ []) × (c ≡ no_contents))
    ⊎ ((es : List Entry) × RestoresEntries file es × (contents_of_entries es ≡ Some c))

-- After the entries are not the bytes of the entry that was written there but others, no more in
-- number, and yet an entry begins in them, with the file's mark and the right checksum. What a
-- crash leaves of a write does that only by chance.
pub record HasChanceEntry (es : List Entry) (e : Entry) (file : List ℕ) : Type 0 where
  pub tail : List ℕ
  pub split : file ≡ entries_bytes (mark_of file) es ++ tail
  pub short : length tail ≤ length (entry_bytes (mark_of file) e)
  pub differs : tail ≢ entry_bytes (mark_of file) e
  pub hit : has_entry (mark_of file) tail ≡ true

-- such a chance, where a change was being appended at the moment
abbrev pub MayHaveChanceEntry : Moment → List ℕ → Type 0
MayHaveChanceEntry m file =
    (es : List Entry) × (contents_of_entries es ≡ Some m.kept)
    × IsSomeAnd m.open_change (λ change.
    HasChanceEntry es (change_entry (next_number m.kept) change) file)

-- A restart finds in the file one of the contents of the moment, but for chance.
abbrev pub FindsPossibleContents : Moment → List ℕ → Type 0
FindsPossibleContents m file =
    ((c : Contents) × MayBeFound m c × IsFoundInFile file c) ⊎ MayHaveChanceEntry m file

-- so it is with whatever a crash leaves of the folder
abbrev pub LeavesPossibleContents : FolderState → Moment → Type 0
LeavesPossibleContents f m = (file : List ℕ) → CrashMayLeave f file → FindsPossibleContents m file

-- so it is at each moment
abbrev pub AllLeavePossibleContents : List FolderState → List Moment → Type 0
AllLeavePossibleContents [] [] = Unit {0}
AllLeavePossibleContents (f ∷ fs) (m ∷ ms) =
    LeavesPossibleContents f m × AllLeavePossibleContents fs ms
AllLeavePossibleContents _ _ = ⊥
