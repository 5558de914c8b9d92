use Rattle.std.proofs.Common.{◌≡◌, ◌<◌, ◌≤◌, ℕ, Some, length, take}
use Rattle.usage_docs.specs.UniqueKeys.{sibling_key, sibling_key_at}
use Rattle.usage_docs.specs.readers.SiblingElements.{node_children}
use Rattle.usage_docs.proofs.child_scan.find_first_with_key.Given as goal

abbrev pub invariant-loop-node : goal.invariant-loop-node
invariant-loop-node l = record {
  counted : l.child ≡ length (node_children (take l.node-index l.nodes));
  small : l.child ≤ l.node-index;
  none : (j : ℕ) → j < l.child → sibling_key_at l.row l.scope (node_children l.nodes) j ≡ Some (sibling_key l.kind l.value) → ⊥;
}
