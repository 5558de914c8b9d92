use Rattle.std.proofs.Common.{◌≡◌, ℕ, suc, ◌-◌, length, Option, IsSome, refl, sym, ap, ◌∙◌, subst, arith}
use Rattle.std.specs.Vec.{with_item}
use Rattle.xml_tree.specs.Tree.{Tree}
use Rattle.xml_tree.specs.Nodes.{elem_of}
use Rattle.xml_tree.specs.declared.tree.Node.TheVariants.{Elem}
use Rattle.xml_tree.proofs.LastElems.{last_there, last_at}
use Rattle.xml_tree.proofs.nodes.last_elem.Goals as goal

pub elem_mut-requires : goal.elem_mut-requires
elem_mut-requires c =
    let ns = c.args.nodes.now in
    let node = c.index_mut.result.now in
    let h : suc (c.len-at.result - 1) ≡ length ns.items = omega (arith, c.len-at.ensures, ns.ok.0, last_there ns.items c.requires) in
    subst (λ (o : Option Tree). IsSome o) (sym (ap elem_of c.index_mut.ensures.value ∙ last_at ns.items (c.len-at.result - 1) node h)) c.requires

pub returns : goal.returns
returns c =
    let ns = c.args.nodes.now in
    let node = c.index_mut.result.now in
    let h : suc (c.len-at.result - 1) ≡ length ns.items = omega (arith, c.len-at.ensures, ns.ok.0, last_there ns.items c.requires) in
    let at : c.len-at.result - 1 ≡ length ns.items - 1 = ap (λ (n : ℕ). n - 1) (c.len-at.ensures ∙ ns.ok.0) in (
      (refl, λ w. ap (λ (i : ℕ). with_item ns i (Elem w)) at),
      record { writes_back = tt; lends_element = sym (ap elem_of c.index_mut.ensures.value ∙ last_at ns.items (c.len-at.result - 1) node h) ∙ c.elem_mut.ensures.lends_element },
    )
