use Rattle.std.proofs.Common.{refl, sym, ap, ◌∙◌}
use Rattle.std.specs.Vec.{with_item}
use Rattle.xml_tree.specs.Nodes.{elem_of}
use Rattle.xml_tree.specs.declared.tree.Node.TheVariants.{Elem}
use Rattle.xml_tree.proofs.Places.{elem_at_place, elem_there}
use Rattle.xml_tree.proofs.nodes.child_mut.Goals as goal

pub elem_mut-requires : goal.elem_mut-requires
elem_mut-requires c =
    let at = rw c.deref.ensures.value at c.child_place-at.ensures.exact in
    rw (c.index_mut.ensures.value, at) (elem_there c.args.child c.args.nodes.now.items c.index_mut.result.now c.requires)

pub returns : goal.returns
returns c =
    let ns = c.args.nodes.now in
    let at = rw c.deref.ensures.value at c.child_place-at.ensures.exact in
    let is = rw at at c.index_mut.ensures.value in (
      (refl, λ w. ap (λ i. with_item ns i (Elem w)) at),
      record { writes_back = tt; lends_element = sym (elem_at_place c.args.child ns.items c.index_mut.result.now c.requires) ∙ ap elem_of (sym is) ∙ c.elem_mut.ensures.lends_element },
    )
