use Rattle.std.proofs.Common.{◌≡◌, ◌+◌, ◌≤◌, drop}
use Rattle.patch_rules.specs.PatchOperations.{count_texts}
use Rattle.patch_apply.proofs.nodes.count_texts.Given as goal

abbrev pub invariant-loop-node : goal.invariant-loop-node
invariant-loop-node l = record { counted : l.count + count_texts (drop l.node-index l.nodes) ≡ count_texts l.nodes; small : l.count ≤ l.node-index }
