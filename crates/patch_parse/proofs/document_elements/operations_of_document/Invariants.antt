use Rattle.std.proofs.Common.{◌≡◌, ◌++◌, drop, filter, map}
use Rattle.xml_tree.specs.Nodes.{content_of}
use Rattle.xml_tree.specs.Tree.{child_elements}
use Rattle.patch_rules.specs.Replay.{is_in_diff_namespace}
use Rattle.patch_parse.proofs.document_elements.operations_of_document.Given as goal

abbrev pub invariant-loop-node : goal.invariant-loop-node
invariant-loop-node l = map (λ x. x.now) l.all.items ++ filter (is_in_diff_namespace l.scope) (child_elements (content_of (drop l.node-index l.node-items))) ≡ filter (is_in_diff_namespace l.scope) (child_elements (content_of l.node-items))
