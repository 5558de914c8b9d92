use Rattle.std.proofs.Common.{◌≡◌, ◌++◌, codes, drop, filter, map}
use Rattle.xml_tree.specs.Nodes.{content_of}
use Rattle.xml_tree.specs.Tree.{child_elements}
use Rattle.patch_rules.specs.Replay.{has_diff_name}
use Rattle.patch_parse.proofs.document_elements.documents.Given as goal

abbrev pub invariant-loop-node : goal.invariant-loop-node
invariant-loop-node l = map (λ x. x.now) l.all.items ++ filter (has_diff_name l.scope (codes "document")) (child_elements (content_of (drop l.node-index l.node-items))) ≡ filter (has_diff_name l.scope (codes "document")) (child_elements (content_of l.node-items))
