use Rattle.std.proofs.Common.{◌≡◌}
use Rattle.xml_tree.specs.Nodes.{AreNormalized, content_of}
use Rattle.xml_tree.proofs.node_splices.merge_adjacent_texts.Given as goal

abbrev pub invariant-loop-node : goal.invariant-loop-node
invariant-loop-node l = record { normal : AreNormalized l.made.items; same : content_of l.made.items ≡ content_of l.yielded }
