use Rattle.std.proofs.Common.{◌≡◌, []}
use Rattle.xml_tree.specs.Tree.{last, tree_of}
use Rattle.reply_bodies.proofs.nodes.declaring_element.Given as goal

abbrev pub invariant-loop-decl : goal.invariant-loop-decl
invariant-loop-decl l = l.element ≡ tree_of l.name l.yielded [] (last [])
