use Rattle.std.proofs.Common.{◌≡◌, length}
use Rattle.store_core.specs.State.{retained_notes}
use Rattle.store_core.specs.inner.RecordRings.{IsRecordRing}
use Rattle.store_core.proofs.retained_records.trim.Given as goal

abbrev pub invariant-oldest : goal.invariant-oldest
invariant-oldest l =
    record {
      ring : IsRecordRing l.notes l.count;
      kept : retained_notes l.notes.items ≡ retained_notes l.fn.notes.items;
    }

abbrev pub decreases-oldest : goal.decreases-oldest
decreases-oldest l = length l.notes.items
