-- The final value of a list of nodes, a part of which was mutably borrowed.
use Rattle.std.specs.Prelude.{ℕ, Vec}
use Rattle.std.specs.Borrow.{Lends, MutBor, Fml}
use Rattle.std.specs.Vec.{with_item}
use Rattle.std.specs.declared.alloc.Global.{Global}
use Rattle.xml_tree.specs.LastNodeBorrows.{nodes_row}
use Rattle.xml_tree.specs.Tree.{Tree}
use Rattle.xml_tree.specs.Nodes.{place}
use Rattle.xml_tree.specs.declared.tree.Node.{Node}
use Rattle.xml_tree.specs.declared.tree.Node.TheVariants.{Elem}
use Rattle.xml_tree.specs.contracts.tree.Element as element
use Rattle.xml_tree.specs.contracts.tree.Node as node

-- the node ends as the element's final value
abbrev pub LendsElem : MutBor Node → MutBor Tree → Fml
LendsElem s r = Lends node.the_row element.the_row s r Elem

-- these nodes with their i-th element replaced
abbrev pub nodes_with_child : Vec Node Global → ℕ → Tree → Vec Node Global
nodes_with_child ns i w = with_item ns (place i ns.items) (Elem w)

-- the nodes end with their i-th element replaced by its final value
abbrev pub LendsChild : MutBor (Vec Node Global) → ℕ → MutBor Tree → Fml
LendsChild s i r = Lends nodes_row element.the_row s r (nodes_with_child s.now i)
