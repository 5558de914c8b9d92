use Rattle.std.proofs.Common.{◌≡◌, ℕ, drop, map, min}
use Rattle.xml_names.specs.Limits.{u64_max}
use Rattle.patch_rules.specs.readers.Replay.{outcome_of_documents}
use Rattle.patch_apply.specs.Views.{IsWithinLevels, replica_view}
use Rattle.patch_apply.proofs.apply_diffs.outcome_of_documents.Given as goal

abbrev pub invariant-loop-document : goal.invariant-loop-document
invariant-loop-document l = record {
  low : IsWithinLevels (replica_view l.held);
  same : (n : ℕ) × (l.before ≡ min n u64_max)
      × (outcome_of_documents 0 l.scope (map (λ x. x.now) l.documents) (replica_view l.fn.held) ≡ outcome_of_documents n l.scope (map (λ x. x.now) (drop l.document-index l.documents)) (replica_view l.held));
}
