-- What opening a log finds. This is the project's own.
use Rattle.std.specs.Prelude.{◌≡◌, ℕ, List, drop, map, false}
use Rattle.log_entries.specs.Entries.{leading_entries}
use Rattle.change_log.specs.LogContents.{Contents}
use Rattle.change_log.specs.LogItems.{Item, IsReadAs}
use Rattle.change_log.specs.LogHistories.{history_from}
use Rattle.folder_log.specs.FileFormat.{item_of}
use Rattle.folder_log.specs.FolderLogs.{LogParts, HasSoundParts}
use Rattle.folder_log.specs.Restarts.{IsFoundInFile, mark_of}

-- the items of the entries that are whole from this place on
abbrev pub remaining_items : List ℕ → ℕ → List Item
remaining_items file at = map item_of (leading_entries (mark_of file) (drop at file)).0

-- The log holds what a restart finds in the file, and a cursor at the file's start reads it.
pub record IsOpenedLog (file : List ℕ) (p : LogParts) (items : List Item) : Type 0 where
  pub contents : Contents
  pub found : IsFoundInFile file contents
  pub history : p.history ≡ history_from contents
  pub read_as : IsReadAs items contents
  pub not_begun : p.is_begun ≡ false
  pub no_draft : p.has_draft ≡ false
  pub not_stopped : p.is_stopped ≡ false
  pub sound : HasSoundParts p
