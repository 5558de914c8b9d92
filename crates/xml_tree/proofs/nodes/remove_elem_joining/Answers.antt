use Rattle.std.proofs.Common.{sym, ap, ◌∙◌, subst}
use Rattle.xml_tree.specs.Nodes.{AreNormalized, content_of, joined_neighbor_texts}
use Rattle.xml_tree.specs.inner.Nodes.{without_node}
use Rattle.xml_tree.proofs.Places.{place_there}
use Rattle.xml_tree.proofs.Removals.{AreNormal-without_node, IsSome-place, beside_within, content_of-without_node, elem_of-place}
use Rattle.xml_tree.proofs.nodes.remove_elem_joining.Goals as goal

pub remove_joined-taken-requires-clause-place_exists : goal.remove_joined-taken-requires-clause-place_exists
remove_joined-taken-requires-clause-place_exists c =
    let at = rw c.deref.ensures.value at c.child_place-place.ensures.exact in
    rw at (place_there c.args.child c.args.nodes.now.items c.requires.place_exists)

pub remove_joined-taken-requires-clause-between : goal.remove_joined-taken-requires-clause-between
remove_joined-taken-requires-clause-between c = λ some.
    let at = rw c.deref.ensures.value at c.child_place-place.ensures.exact in
    let value = c.requires.joined_texts in
    rw at (beside_within _ c.args.nodes.now.items (rw value at some))

pub into_elem-requires : goal.into_elem-requires
into_elem-requires c =
    let at = rw c.deref.ensures.value at c.child_place-place.ensures.exact in
    IsSome-place c.args.child c.args.nodes.now.items c.remove_joined-taken.result c.requires.place_exists (rw at at c.remove_joined-taken.ensures.previous_element)

pub returns-clause-stays_normal : goal.returns-clause-stays_normal
returns-clause-stays_normal c = λ normal.
    let ns = c.args.nodes.now.items in let p = c.child_place-place.result in
    let at = rw c.deref.ensures.value at c.child_place-place.ensures.exact in
    let value = c.requires.joined_texts ∙ ap (λ i. joined_neighbor_texts i ns) (sym at) in
    subst AreNormalized (sym (c.remove_joined-taken.ensures.others_joined ∙ ap (λ o. without_node p o ns) value)) (AreNormal-without_node p ns normal)

pub returns-clause-previous_element : goal.returns-clause-previous_element
returns-clause-previous_element c =
    let at = rw c.deref.ensures.value at c.child_place-place.ensures.exact in
    sym (elem_of-place c.args.child c.args.nodes.now.items c.remove_joined-taken.result c.requires.place_exists (rw at at c.remove_joined-taken.ensures.previous_element)) ∙ c.into_elem.ensures.element_it_was

pub returns-clause-others_joined : goal.returns-clause-others_joined
returns-clause-others_joined c =
    let ns = c.args.nodes.now.items in let p = c.child_place-place.result in
    let at = rw c.deref.ensures.value at c.child_place-place.ensures.exact in
    let value = c.requires.joined_texts ∙ ap (λ i. joined_neighbor_texts i ns) (sym at) in
    ap content_of (c.remove_joined-taken.ensures.others_joined ∙ ap (λ o. without_node p o ns) value ∙ ap (λ i. without_node i (joined_neighbor_texts i ns) ns) at)
    ∙ content_of-without_node c.args.child ns c.requires.place_exists
