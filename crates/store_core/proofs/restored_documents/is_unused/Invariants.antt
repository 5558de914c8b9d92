use Rattle.std.proofs.Common.{◌≡◌}
use Rattle.store_core.specs.inner.RestoredEntries.{is_unused_tag}
use Rattle.store_core.proofs.restored_documents.is_unused.Given as goal

abbrev pub invariant-loop-doc : goal.invariant-loop-doc
invariant-loop-doc l =
    record {
      can : (goal.iterator-loop-doc).can_next l.doc-iterator;
      finite : (goal.iterator-loop-doc).is_finite l.doc-iterator;
      so_far : is_unused_tag l.tag l.doc-iterator ≡ is_unused_tag l.tag l.documents.entries;
    }
