-- What contracts see of a log in a folder. This is the project's own.
use Rattle.std.specs.Prelude.{◌≡◌, ◌<◌, ◌≤◌, ◌-◌, ◌^◌, ℕ, List, [], ◌∷◌, length, map}
use Rattle.std.specs.Prelude.{Bool, true, false}
use Rattle.std.specs.Prelude.{Option, None, Some, IfSome, option_map}
use Rattle.std.specs.List.{AllByRecursion}
use Rattle.log_disk.specs.FolderStates.{FolderState, History as FolderMoments}
use Rattle.log_disk.specs.DiskHistories.{disk_history}
use Rattle.log_entries.specs.Entries.{Entry, FitsEntryForm, entry_bytes, entries_bytes}
use Rattle.change_log.specs.LogContents.{next_number}
use Rattle.change_log.specs.LogHistories.{Moment, History}
use Rattle.change_log.specs.LogStates.{LogState}
use Rattle.folder_log.specs.FileFormat.{change_entry, contents_of_entries, max_entry_bytes}
use Rattle.folder_log.specs.FileFormat.{part_entry}
use Rattle.folder_log.specs.Restarts.{AllLeavePossibleContents}
use Rattle.folder_log.specs.declared.folder_log.FolderLog.{FolderLog}

-- A log in a folder, without its calls.
pub record LogParts : Type 0 where
  pub folder : FolderMoments
  pub history : History
  -- the mark of the file, and the mark of the draft
  pub mark : List ℕ
  pub draft_mark : List ℕ
  pub next : ℕ
  pub is_begun : Bool
  pub has_draft : Bool
  -- whether what a failed write left may be in the file
  pub is_torn : Bool
  pub is_stopped : Bool

abbrev pub log_parts : {C : Type 0} → FolderLog C → LogParts
log_parts log = record {
  folder = disk_history log.disk;
  history = log.history.log;
  mark = log.mark;
  draft_mark = log.draft_mark;
  next = log.next;
  is_begun = log.is_begun;
  has_draft = log.has_draft;
  is_torn = log.is_torn;
  is_stopped = log.is_stopped;
}

-- the state that the contracts of `ChangeLog` see
abbrev pub log_state : LogParts → LogState
log_state p = record {
  history = p.history;
  is_begun = p.is_begun;
  has_draft = p.has_draft;
  is_stopped = p.is_stopped;
  faults = p.folder.now.faults;
}

-- the entry of the change that is open
abbrev pub open_entry : Moment → Option Entry
open_entry m = option_map (change_entry (next_number m.kept)) m.open_change

-- how many bytes it has
abbrev pub open_entry_len : List ℕ → Option Entry → ℕ
open_entry_len mark None = 0
open_entry_len mark (Some e) = length (entry_bytes mark e)

-- The entries are on the disk, and after them writes have touched at most as many bytes as the
-- open one has.
pub record HoldsEntries (f : FolderState) (mark : List ℕ) (es : List Entry)
    (open_one : Option Entry)
    : Type 0 where
  pub marked : length mark ≡ 8
  pub nonempty : 0 < length es
  pub fit : AllByRecursion FitsEntryForm es
  pub open_fits : IfSome open_one FitsEntryForm
  pub open_short : open_entry_len mark open_one ≤ max_entry_bytes
  pub synced : f.synced ≡ entries_bytes mark es
  pub touched : f.touched ≤ open_entry_len mark open_one
  pub settled : f.renamed ≡ None

-- The file has the entries of what was acknowledged, and no bytes that wait for a sync.
pub record HoldsMoment (f : FolderState) (mark : List ℕ) (m : Moment) : Type 0 where
  pub entries : List Entry
  pub holds : HoldsEntries f mark entries (open_entry m)
  pub read_as : contents_of_entries entries ≡ Some m.kept
  pub numbered : IfSome m.open_change (λ change. next_number m.kept < 2 ^ 64 - 1)
  pub written : f.written ≡ []

-- The draft has the entries of the parts.
pub record HoldsDraft (f : FolderState) (mark : List ℕ) (parts : List (List ℕ)) : Type 0 where
  pub marked : length mark ≡ 8
  pub draft : f.draft ≡ Some (entries_bytes mark (map part_entry parts))
  pub fit : AllByRecursion FitsEntryForm (map part_entry parts)

-- What holds of a log before and after each call.
pub record HasSoundParts (p : LogParts) : Type 0 where
  pub torn : p.folder.now.is_torn ≡ p.is_torn
  pub lost : p.folder.now.is_lost ≡ p.is_stopped
  pub settled : p.is_stopped ≡ false → p.folder.now.renamed ≡ None
  pub none_instead : p.is_stopped ≡ false → p.history.now.instead ≡ None
  pub none_open : p.is_torn ≡ false → p.is_stopped ≡ false → p.history.now.open_change ≡ None
  pub next : p.next ≡ next_number p.history.now.kept
  pub begun : p.is_begun ≡ true → p.is_stopped ≡ false
      → HoldsMoment p.folder.now p.mark p.history.now
  pub draft : p.has_draft ≡ true → p.is_stopped ≡ false
      → HoldsDraft p.folder.now p.draft_mark p.history.draft
  -- whatever a crash leaves at any moment, a restart finds what the history says, but for chance
  pub leaves : AllLeavePossibleContents (p.folder.now ∷ p.folder.past)
      (p.history.now ∷ p.history.past)

abbrev pub IsSoundLog : {C : Type 0} → FolderLog C → Type 0
IsSoundLog log = HasSoundParts (log_parts log)
