use Rattle.std.proofs.Common.{◌≡◌, ◌*◌, ◌+◌, drop}
use Rattle.xml_tree.specs.Tree.{height}
use Rattle.list_resolve.specs.Walks.{walk_after_mark, content_items}
use Rattle.list_resolve.specs.inner.WalkStates.{with_items}
use Rattle.list_resolve.specs.inner.SkippedElements.{HasSoundPlaces, resolve_in_context}
use Rattle.list_resolve.specs.inner.Views.{context_view}
use Rattle.list_resolve.proofs.Walks.{nodes_items}
use Rattle.list_resolve.proofs.walk.+walk.Given as goal

-- by how many elements may still be added to the chain, then by height, which is at most
-- `MAX_LEVELS` where a reference leads to
abbrev pub decreases-walk_inside : goal.decreases-walk_inside
decreases-walk_inside l = 300 * l.left + 3 * height l.element.now

abbrev pub decreases-walk_child_element : goal.decreases-walk_child_element
decreases-walk_child_element l = 300 * l.left + 3 * height l.child_element.now + 2

abbrev pub decreases-walk_element : goal.decreases-walk_element
decreases-walk_element l = 300 * l.left + 3 * height l.element.now + 1

abbrev pub decreases-walk_reference : goal.decreases-walk_reference
decreases-walk_reference l = 300 * l.left + 3 * height l.element.now

abbrev pub decreases-walk_after_mark : goal.decreases-walk_after_mark
decreases-walk_after_mark l = 300 * l.left + 2

abbrev pub decreases-walk_resolved_reference : goal.decreases-walk_resolved_reference
decreases-walk_resolved_reference l = 300 * l.left + 299

abbrev pub decreases-walk_unless_passed : goal.decreases-walk_unless_passed
decreases-walk_unless_passed l = 300 * l.left + 298

abbrev pub decreases-walk_with_place : goal.decreases-walk_with_place
decreases-walk_with_place l = 300 * l.left + 297

abbrev pub invariant-walk_inside-loop-node : goal.invariant-walk_inside-loop-node
invariant-walk_inside-loop-node l =
    record {
      gathered : with_items l.collector.tally (nodes_items (walk_after_mark (resolve_in_context (context_view l.ground)) l.ground.root.now l.left l.chain) l.ground.root.now l.row l.scope (drop l.node-index l.node-items))
          ≡ with_items l.initial.collector.tally (content_items (walk_after_mark (resolve_in_context (context_view l.ground)) l.ground.root.now l.left l.chain) l.ground.root.now l.row l.scope l.element.content);
      sound : HasSoundPlaces (context_view l.ground) l.collector;
    }
