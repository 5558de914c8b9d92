use Rattle.std.proofs.Common.{◌≡◌, []}
use Rattle.store_core.specs.inner.ServiceListing.{with_entries, index_entries, borrowed_pairs}
use Rattle.store_core.proofs.indexes.trees_by_user.Given as goal

abbrev pub invariant-loop-doc : goal.invariant-loop-doc
invariant-loop-doc l =
    record {
      can : (goal.iterator-loop-doc).can_next l.doc-iterator;
      finite : (goal.iterator-loop-doc).is_finite l.doc-iterator;
      so_far : with_entries (borrowed_pairs l.made.entries) (index_entries l.doc-iterator) ≡ with_entries [] (index_entries l.documents.entries);
    }
