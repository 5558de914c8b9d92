use Rattle.std.proofs.Common.{◌<◌, length, sym, ap, subst, ◌∙◌}
use Rattle.xml_tree.specs.Nodes.{nodes_of, place}
use Rattle.xml_tree.specs.Tree.{Tree, at}
use Rattle.xml_tree.proofs.PathLemmas.{with_there}
use Rattle.patch_apply.proofs.Sites.{front_is, is_there, place_is, place_within, there_above}
use Rattle.patch_apply.proofs.edits.place_in_parent.Goals as goal

pub unreachable-requires-in_default-element_at : goal.unreachable-requires-in_default-element_at
unreachable-requires-in_default-element_at c =
    let parts = (c.in-Some.ensures {u = tt}).path_parts in
    is_there (at c.in-Some.parent c.args.tree.now) (c.in_default-element_at.ensures {u = tt}).exact
    (there_above c.args.path.now c.in-Some.parent c.in-Some.child c.args.tree.now parts c.requires.place_exists)

pub returns-clause-path_of_parent : goal.returns-clause-path_of_parent
returns-clause-path_of_parent c = front_is c.args.path.now c.in-Some.parent c.in-Some.child (c.in-Some.ensures {u = tt}).path_parts

pub returns-clause-place_in_nodes : goal.returns-clause-place_in_nodes
returns-clause-place_in_nodes c =
    let e = c.in-Some-element_at.element.now in let there = sym (c.in-Some-element_at.ensures {u = tt}).exact in
    c.child_place-place.ensures.exact ∙ ap (place c.in-Some.child) c.nodes.ensures.content_nodes ∙ place_is c.args.path.now c.in-Some.parent c.in-Some.child c.args.tree.now e (c.in-Some.ensures {u = tt}).path_parts there

pub returns-clause-within_nodes : goal.returns-clause-within_nodes
returns-clause-within_nodes c =
    let e = c.in-Some-element_at.element.now in let there = sym (c.in-Some-element_at.ensures {u = tt}).exact in
    let inside = place_within c.args.path.now c.in-Some.parent c.in-Some.child c.args.tree.now e (c.in-Some.ensures {u = tt}).path_parts c.requires.place_exists there in
    with_there (at c.in-Some.parent c.args.tree.now) (λ (x : Tree). c.child_place-place.result < length (nodes_of x.content)) e there
    (subst (λ n. n < length (nodes_of e.content)) (sym (c.child_place-place.ensures.exact ∙ ap (place c.in-Some.child) c.nodes.ensures.content_nodes)) inside)
