use Rattle.std.proofs.Common.{◌≡◌, ◌∙◌, List, ℕ, sym, ap, subst}
use Rattle.log_disk.specs.FolderStates.{opened_folder as folder_opened_on}
use Rattle.log_disk.specs.DiskHistories.{disk_history}
use Rattle.change_log.specs.LogItems.{Item}
use Rattle.folder_log.specs.FolderLogs.{LogParts, log_parts}
use Rattle.folder_log.specs.LogOpenings.{IsOpenedLog, remaining_items}
use Rattle.folder_log.specs.Restarts.{IsFoundInFile}
use Rattle.folder_log.specs.inner.Scanners.{scan_of}
use Rattle.folder_log.proofs.NewLogs.{opened}
use Rattle.folder_log.proofs.log_opening.open_log.Goals as goal

pub returns-in-Err-clause-nothing_found : goal.returns-in-Err-clause-nothing_found
returns-in-Err-clause-nothing_found g c k found = c.in-Err.ensures.nothing_found k (subst (λ (l : List ℕ). IsFoundInFile l k) (sym c.deref.ensures.value) found)

pub returns-clause-opened : goal.returns-clause-opened
returns-clause-opened g c =
    let file = c.args.bytes.items in
    let same = c.deref-2.ensures.value ∙ sym c.deref.ensures.value in
    let base =
    opened file c.deref.result.now (scan_of c.in-Ok.scanner).contents (disk_history c.new-disk.result) c.in-Ok.scanner.history.log c.in-Ok.scanner.next c.deref.ensures.value
    (c.new-disk.ensures.exact ∙ ap (λ (l : List ℕ). folder_opened_on l) same) c.in-Ok.ensures.agrees.history c.in-Ok.ensures.next c.in-Ok.ensures.found c.in-Ok.ensures.read_as in
    let left : remaining_items file 0 ≡ remaining_items c.new.result.bytes.items c.new.result.at =
    ap (λ (n : ℕ). remaining_items file n) (sym c.new.ensures.at_start) ∙ ap (λ (l : List ℕ). remaining_items l c.new.result.at) (sym c.new.ensures.all_left) in
    subst (λ (items : List Item). IsOpenedLog file (log_parts c.log_of.result) items) left
    (subst (λ (p : LogParts). IsOpenedLog file p (remaining_items file 0)) (sym c.log_of.ensures.exact) base)
