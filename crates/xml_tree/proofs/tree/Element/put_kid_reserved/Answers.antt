use Rattle.std.proofs.Common.{List, length, suc, sym, ap, ◌∙◌, subst}
use Rattle.xml_tree.specs.Tree.{Tree}
use Rattle.xml_tree.specs.Nodes.{nodes_of}
use Rattle.xml_tree.specs.Reservations.{HasCapacity}
use Rattle.xml_tree.specs.declared.tree.Node.{Node}
use Rattle.xml_tree.proofs.Places.{nodes_of-content_of}
use Rattle.xml_tree.proofs.tree.Element.put_kid_reserved.Goals as goal

pub insert_elem_reserved-requires-clause-room_left : goal.insert_elem_reserved-requires-clause-room_left
insert_elem_reserved-requires-clause-room_left c =
    let same = ap (λ (e : Tree). nodes_of e.content) (sym c.self.view_is) ∙ nodes_of-content_of c.self.inside.nodes.items c.self.invariant in
    subst (λ (l : List Node). HasCapacity (suc (length l)) c.args.room) same c.requires.room_left
