-- A folder that holds one file, as the answers of the calls on it tell. This is the project's own
-- model of a disk.
use Rattle.std.specs.Prelude.{ℕ, ◌+◌, List, [], ◌∷◌, ◌++◌, length, Bool, true, false}
use Rattle.std.specs.Prelude.{Option, None, Some, option_map}

-- The folder at one moment.
pub record FolderState : Type 0 where
  -- the bytes of the file that are on the disk for certain
  pub synced : List ℕ
  -- the bytes that were written after them since
  pub written : List ℕ
  -- how many bytes after the synced ones writes may have touched since
  pub touched : ℕ
  -- whether a write has failed since, so that it isn't known what comes after the synced bytes
  pub is_torn : Bool
  -- whether a sync or a rename has failed: no further call may be made then
  pub is_lost : Bool
  -- the bytes of the draft, if there is one, and whether they are on the disk
  pub draft : Option (List ℕ)
  pub is_ready : Bool
  -- the bytes of the draft that may have the file's name, where a rename isn't yet on the disk
  pub renamed : Option (List ℕ)
  -- how many calls have failed
  pub faults : ℕ

-- the file's bytes are on the disk, and nothing else is there
abbrev pub settled_state : List ℕ → ℕ → FolderState
settled_state bytes faults = record {
  synced = bytes;
  written = [];
  touched = 0;
  is_torn = false;
  is_lost = false;
  draft = None;
  is_ready = false;
  renamed = None;
  faults = faults;
}

-- the bytes were written
abbrev pub with_write : List ℕ → FolderState → FolderState
with_write bytes f =
    record f { written = f.written ++ bytes; touched = f.touched + length bytes }

-- a write of the bytes failed: none, some or all of them may be there
abbrev pub with_torn_write : List ℕ → FolderState → FolderState
with_torn_write bytes f =
    record f { touched = f.touched + length bytes; is_torn = true; faults = f.faults + 1 }

-- what was written is on the disk
abbrev pub with_sync : FolderState → FolderState
with_sync f = record f { synced = f.synced ++ f.written; written = []; touched = 0 }

-- a sync failed
abbrev pub with_failed_sync : FolderState → FolderState
with_failed_sync f = record f { is_lost = true; faults = f.faults + 1 }

-- the file was cut to its synced bytes; only a sync makes sure that a crash keeps it so
abbrev pub with_cut : FolderState → FolderState
with_cut f = record f { written = []; is_torn = false }

-- a call failed that changes nothing
abbrev pub with_fault : FolderState → FolderState
with_fault f = record f { faults = f.faults + 1 }

-- an empty draft was begun
abbrev pub with_draft : FolderState → FolderState
with_draft f = record f { draft = Some []; is_ready = false }

-- the bytes were written to the draft
abbrev pub with_draft_bytes : List ℕ → FolderState → FolderState
with_draft_bytes bytes f =
    record f { draft = option_map (λ begun. begun ++ bytes) f.draft; is_ready = false }

-- a call on the draft failed, which is of no use then
abbrev pub without_draft : FolderState → FolderState
without_draft f = record f { draft = None; is_ready = false; faults = f.faults + 1 }

-- the draft is on the disk
abbrev pub with_ready_draft : FolderState → FolderState
with_ready_draft f = record f { is_ready = true }

-- the draft has the file's name, but the folder isn't synced
abbrev pub with_rename : FolderState → FolderState
with_rename f = record f { draft = None; is_ready = false; renamed = f.draft }

-- renaming the draft failed: either of the two may have the file's name
abbrev pub with_failed_rename : FolderState → FolderState
with_failed_rename f =
    record f {
      draft = None;
      is_ready = false;
      renamed = f.draft;
      is_lost = true;
      faults = f.faults + 1;
    }

-- the folder is synced
abbrev pub with_folder_sync : FolderState → FolderState
with_folder_sync f = elim f.renamed [ None ↦ f | Some bytes ↦ settled_state bytes f.faults ]

-- The folder now, and at each moment before, the latest first.
pub record History : Type 0 where
  pub now : FolderState
  pub past : List FolderState

-- the folder is this next
abbrev pub with_next_state : History → FolderState → History
with_next_state h f = record { now = f; past = h.now ∷ h.past }

-- this was done to the folder
abbrev pub with_step : History → (FolderState → FolderState) → History
with_step h step = with_next_state h (step h.now)

-- a folder was opened, whose file has the bytes
abbrev pub opened_folder : List ℕ → History
opened_folder bytes = record { now = settled_state bytes 0; past = [] }
