use Rattle.std.proofs.Common.{◌≡◌, ◌≤◌, ◌*◌, ◌+◌, drop, length, take, true}
use Rattle.xml_tree.specs.Nodes.{node_height}
use Rattle.xml_tree.specs.Tree.{content_height, height, child_elements_of}
use Rattle.usage_docs.specs.ReferenceForms.{AllReferencesFormed}
use Rattle.usage_docs.specs.readers.KeyRepeats.{HoldsKeys}
use Rattle.usage_docs.specs.readers.SiblingElements.{node_children}
use Rattle.usage_docs.specs.readers.ContentWalks.{IsContentOfKind}
use Rattle.usage_docs.proofs.FindingLemmas.{FirstSoFar, Stands}
use Rattle.usage_docs.proofs.NodesFormed.{FormedNodes}
use Rattle.usage_docs.proofs.NodesValid.{ValidNodes}
use Rattle.usage_docs.proofs.validation_result.+walk.Given as goal

abbrev pub decreases-walk_inside : goal.decreases-walk_inside
decreases-walk_inside l = 4 * height l.element.now

abbrev pub decreases-walk_node : goal.decreases-walk_node
decreases-walk_node l = 4 * node_height l.node.now + 3

abbrev pub decreases-validate_child : goal.decreases-validate_child
decreases-validate_child l = 4 * height l.child_element.now + 2

abbrev pub decreases-walk_if_kind : goal.decreases-walk_if_kind
decreases-walk_if_kind l = 4 * height l.element.now + 1

abbrev pub invariant-walk_inside-loop-node : goal.invariant-walk_inside-loop-node
invariant-walk_inside-loop-node l = record {
  valid : Stands l.found.valid (ValidNodes l.row l.scope l.passed.part (drop l.node-index l.nodes)) l.fn.found.valid (IsContentOfKind l.row l.scope l.element.content);
  formed : Stands l.found.formed (FormedNodes l.row l.scope (drop l.node-index l.nodes)) l.fn.found.formed (AllReferencesFormed l.row l.scope l.element.content);
  child_elements : child_elements_of l.element ≡ node_children l.nodes;
  counted : l.passed.count ≡ length (node_children (take l.node-index l.nodes));
  small : l.passed.count ≤ l.node-index;
  clear : l.passed.clear ≤ l.passed.count;
  held : l.passed.holds_all ≡ true → HoldsKeys l.row l.scope (child_elements_of l.element) l.passed.count l.passed.keys.items;
  first : length l.trail + content_height l.element.content ≤ 64 → FirstSoFar l.row l.scope (child_elements_of l.element) l.trail l.passed.count l.passed.clear l.fn.found.clash l.found.clash;
}
