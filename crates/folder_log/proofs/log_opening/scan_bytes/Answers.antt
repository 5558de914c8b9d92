use Rattle.std.proofs.Common.{◌∙◌, inl, sym, ap}
use Rattle.std.proofs.lemmas.Bool.{not-false}
use Rattle.change_log.specs.LogItems.{Scan}
use Rattle.folder_log.specs.inner.Scanners.{scan_of}
use Rattle.folder_log.proofs.FileScans.{found_by, is_empty, none_left}
use Rattle.folder_log.proofs.log_opening.scan_bytes.Goals as goal

pub returns-then-is_empty-clause-read_as : goal.returns-then-is_empty-clause-read_as
returns-then-is_empty-clause-read_as c =
    inl (none_left c.args.bytes.now (is_empty c.args.bytes.now (sym c.is_empty.ensures ∙ c.if-is_empty.true)), ap (λ (s : Scan). s.contents) c.new.ensures.nothing_read)

pub returns-clause-found : goal.returns-clause-found
returns-clause-found c =
    found_by c.args.bytes.now c.file_mark-mark.result.now c.in-Ok.scanned.1.now (scan_of c.new-2.result) (scan_of c.in-Ok.scanned.0) c.file_mark-mark.ensures.exact c.new-2.ensures.nothing_read
    c.in-Ok.ensures.scanned (not-false c.in-Ok.scanned.0.is_ended c.if-not-scanner.false) c.in-Ok.ensures.rest (sym c.has_entry.ensures.exact ∙ c.if-has_entry.false) c.if-rest.false
