use Rattle.std.proofs.Common.{◌≡◌, ◌+◌, drop}
use Rattle.xml_tree.specs.Nodes.{place}
use Rattle.xml_tree.proofs.nodes.child_place.Given as goal

abbrev pub invariant-loop-i : goal.invariant-loop-i
invariant-loop-i l = l.i + place l.left (drop l.i l.nodes) ≡ place l.child l.nodes
