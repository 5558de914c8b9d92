-- What the scanner of a file has read.
use Rattle.std.specs.Prelude.{◌≡◌, ℕ, [], ◌∷◌, Bool, true, false, if◌then◌else◌, None, Some}
use Rattle.log_disk.specs.FolderStates.{History as FolderMoments}
use Rattle.change_log.specs.LogContents.{next_number}
use Rattle.change_log.specs.LogItems.{Item, Scan, scan_item}
use Rattle.change_log.specs.LogHistories.{History, history_from}
use Rattle.folder_log.specs.FolderLogs.{LogParts}
use Rattle.folder_log.specs.declared.log_opening.Scanner.{Scanner}

abbrev pub scan_of : Scanner → Scan
scan_of scanner = record {
  contents = scanner.history.log.now.kept;
  is_ended = scanner.is_ended;
}

-- the history is that of a log that was just opened, and the next number is known
pub record AgreesWithHistory (scanner : Scanner) : Type 0 where
  pub history : scanner.history.log ≡ history_from scanner.history.log.now.kept
  pub next : scanner.next ≡ next_number scanner.history.log.now.kept

-- the item was read, or doesn't come next
abbrev pub ScansItem : Scanner → Item → Bool → Scanner → Type 0
ScansItem old item result new =
    scan_item (scan_of old) item ≡ (if result then Some (scan_of new) else None)

-- a log that was just opened, in which no snapshot was written
abbrev pub new_parts : FolderMoments → History → ℕ → LogParts
new_parts folder history next = record {
  folder = folder;
  history = history;
  mark = 0 ∷ 0 ∷ 0 ∷ 0 ∷ 0 ∷ 0 ∷ 0 ∷ 0 ∷ [];
  draft_mark = 0 ∷ 0 ∷ 0 ∷ 0 ∷ 0 ∷ 0 ∷ 0 ∷ 0 ∷ [];
  next = next;
  is_begun = false;
  has_draft = false;
  is_torn = false;
  is_stopped = false;
}
