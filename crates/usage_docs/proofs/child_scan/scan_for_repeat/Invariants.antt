use Rattle.std.proofs.Common.{◌≡◌, ◌<◌, ◌≤◌, ℕ, length, take}
use Rattle.usage_docs.specs.declared.schema_table.Key.{Key}
use Rattle.usage_docs.specs.UniqueKeys.{RepeatsKey}
use Rattle.usage_docs.specs.readers.SiblingElements.{node_children}
use Rattle.usage_docs.proofs.child_scan.scan_for_repeat.Given as goal

abbrev pub invariant-loop-node : goal.invariant-loop-node
invariant-loop-node l = record {
  counted : l.child ≡ length (node_children (take l.node-index l.nodes));
  small : l.child ≤ l.node-index;
  none : (k : ℕ) (key : Key) → k < l.child → RepeatsKey l.row l.scope (node_children l.nodes) k key → ⊥;
}
