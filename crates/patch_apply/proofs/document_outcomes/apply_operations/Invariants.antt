use Rattle.std.proofs.Common.{◌≡◌, ◌≤◌, ℕ, drop, map, min}
use Rattle.xml_names.specs.Limits.{u64_max}
use Rattle.xml_tree.specs.Tree.{height}
use Rattle.patch_rules.specs.readers.Replay.{apply_operations}
use Rattle.patch_apply.proofs.document_outcomes.apply_operations.Given as goal

abbrev pub invariant-loop-operation : goal.invariant-loop-operation
invariant-loop-operation l = record {
  low : height l.tree ≤ 64;
  same : (n : ℕ) → l.before ≡ min n u64_max → (m : ℕ) × (l.number ≡ min m u64_max)
      × (apply_operations n l.scope (map (λ x. x.now) l.operations) l.fn.tree ≡ apply_operations m l.scope (map (λ x. x.now) (drop l.operation-index l.operations)) l.tree);
}
