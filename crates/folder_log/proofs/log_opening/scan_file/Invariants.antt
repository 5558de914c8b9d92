use Rattle.std.proofs.Common.{◌≡◌, length, map}
use Rattle.log_entries.specs.Entries.{leading_entries}
use Rattle.change_log.specs.LogItems.{scan_items}
use Rattle.folder_log.specs.FileFormat.{item_of}
use Rattle.folder_log.specs.inner.Scanners.{AgreesWithHistory, scan_of}
use Rattle.folder_log.proofs.log_opening.scan_file.Given as goal

-- the entries that are left are read as all are from the start, and leave the same rest
abbrev pub invariant-loop-number : goal.invariant-loop-number
invariant-loop-number l = record {
  leads : scan_items (scan_of l.scanner) (map item_of (leading_entries l.mark l.rest).0) ≡ scan_items (scan_of l.fn.start) (map item_of (leading_entries l.mark l.bytes).0);
  rest : (leading_entries l.mark l.rest).1 ≡ (leading_entries l.mark l.bytes).1;
  agrees : AgreesWithHistory l.scanner;
}

abbrev pub decreases-loop-number : goal.decreases-loop-number
decreases-loop-number l = length l.rest
