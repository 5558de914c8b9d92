use Rattle.std.proofs.Common.{◌≡◌, max, min, drop}
use Rattle.patch_apply.specs.inner.ContentNodes.{nodes_height}
use Rattle.patch_apply.proofs.nodes.nodes_depth.Given as goal

abbrev pub invariant-loop-node : goal.invariant-loop-node
invariant-loop-node l = max l.deepest (min (nodes_height (drop l.node-index l.nodes)) 18446744073709551615) ≡ min (nodes_height l.nodes) 18446744073709551615
