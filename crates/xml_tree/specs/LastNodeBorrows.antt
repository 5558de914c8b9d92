-- The final value of a list of nodes whose last element was mutably borrowed.
use Rattle.std.specs.Prelude.{◌-◌, length, Vec}
use Rattle.std.specs.Borrow.{Lends, MutBor, Fml, RattleType}
use Rattle.std.specs.Vec.{with_item}
use Rattle.std.specs.declared.alloc.Global.{Global}
use Rattle.std.specs.contracts.alloc.Global as global
use Rattle.std.specs.contracts.vec.Vec as vec
use Rattle.std.specs.contracts.impls.GlobalAllocator.TheImpl.{ghosts}
use Rattle.xml_tree.specs.Tree.{Tree}
use Rattle.xml_tree.specs.declared.tree.Node.{Node}
use Rattle.xml_tree.specs.declared.tree.Node.TheVariants.{Elem}
use Rattle.xml_tree.specs.contracts.tree.Element as element
use Rattle.xml_tree.specs.contracts.tree.Node as node

-- a list of nodes, as the logic of borrows sees it
abbrev pub nodes_row : RattleType
nodes_row = vec.the_row node.the_row global.the_row ghosts

-- the nodes end with the last one replaced by the element's final value
abbrev pub LendsLastElement : MutBor (Vec Node Global) → MutBor Tree → Fml
LendsLastElement s r =
    Lends nodes_row element.the_row s r (λ w. with_item s.now (length s.now.items - 1) (Elem w))
