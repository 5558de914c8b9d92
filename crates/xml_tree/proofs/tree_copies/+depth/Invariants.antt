use Rattle.std.proofs.Common.{◌≡◌, max, min, drop}
use Rattle.xml_tree.specs.Tree.{content_height}
use Rattle.xml_tree.specs.Nodes.{content_of}
use Rattle.xml_tree.proofs.tree_copies.+depth.Given as goal

abbrev pub invariant-loop-node : goal.invariant-loop-node
invariant-loop-node l =
    max l.below (min (content_height (content_of (drop l.node-index l.node-items))) 18446744073709551615)
    ≡ min (content_height (content_of l.node-items)) 18446744073709551615
