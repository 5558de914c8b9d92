-- A log that was just opened.
use Rattle.std.proofs.Common.{◌≡◌, ℕ, List, false, true, refl, sym, ap, subst, ◌∙◌, true≢false}
use Rattle.log_disk.specs.FolderStates.{History as FolderMoments, opened_folder as folder_opened_on}
use Rattle.change_log.specs.LogContents.{Contents, next_number}
use Rattle.change_log.specs.LogItems.{IsReadAs}
use Rattle.change_log.specs.LogHistories.{History, history_from}
use Rattle.folder_log.specs.FolderLogs.{HasSoundParts}
use Rattle.folder_log.specs.LogOpenings.{IsOpenedLog, remaining_items}
use Rattle.folder_log.specs.Restarts.{IsFoundInFile}
use Rattle.folder_log.specs.inner.Scanners.{new_parts}
use Rattle.folder_log.proofs.FileScans.{opened_leaves}

new_sound : (file : List ℕ) (c : Contents) (next : ℕ) → IsFoundInFile file c → next ≡ next_number c → HasSoundParts (new_parts (folder_opened_on file) (history_from c) next)
new_sound file c next found is = record {
  torn = refl;
  lost = refl;
  settled = λ running. refl;
  none_instead = λ running. refl;
  none_open = λ whole running. refl;
  next = is;
  begun = λ begun running. absurd (true≢false (sym begun));
  draft = λ has running. absurd (true≢false (sym has));
  leaves = (opened_leaves file c found, tt);
}

pub opened : (file bytes : List ℕ) (c : Contents) (folder : FolderMoments) (history : History) (next : ℕ) → bytes ≡ file → folder ≡ folder_opened_on bytes → history ≡ history_from c → next ≡ next_number c
    → IsFoundInFile bytes c → IsReadAs (remaining_items bytes 0) c → IsOpenedLog file (new_parts folder history next) (remaining_items file 0)
opened file bytes c folder history next same folder_is history_is next_is found read_as =
    let found_here : IsFoundInFile file c = subst (λ (l : List ℕ). IsFoundInFile l c) same found in
    record {
      contents = c;
      found = found_here;
      history = history_is;
      read_as = subst (λ (l : List ℕ). IsReadAs (remaining_items l 0) c) same read_as;
      not_begun = refl;
      no_draft = refl;
      not_stopped = refl;
      sound =
          subst (λ (f : FolderMoments). HasSoundParts (new_parts f history next)) (sym (folder_is ∙ ap (λ (l : List ℕ). folder_opened_on l) same))
          (subst (λ (h : History). HasSoundParts (new_parts (folder_opened_on file) h next)) (sym history_is) (new_sound file c next found_here next_is));
    }
