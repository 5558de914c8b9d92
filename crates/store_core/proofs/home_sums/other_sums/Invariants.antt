use Rattle.std.proofs.Common.{◌≡◌, ◌+◌, length, sum_by}
use Rattle.store_core.specs.inner.HomeSums.{others_at_home, stored_len}
use Rattle.store_core.proofs.home_sums.other_sums.Given as goal

abbrev pub invariant-loop-other : goal.invariant-loop-other
invariant-loop-other l =
    record {
      can : (goal.iterator-loop-other).can_next l.other-iterator;
      finite : (goal.iterator-loop-other).is_finite l.other-iterator;
      counts : l.sums.documents + length (others_at_home l.other-iterator l.doc) ≡ length (others_at_home l.documents.entries l.doc);
      adds : l.sums.bytes + sum_by stored_len (others_at_home l.other-iterator l.doc) ≡ sum_by stored_len (others_at_home l.documents.entries l.doc);
    }
