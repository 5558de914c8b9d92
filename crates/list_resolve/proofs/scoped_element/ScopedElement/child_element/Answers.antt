use Rattle.std.proofs.Common.{◌≡◌, Some, slice_get, sym, ap, ◌∙◌}
use Rattle.std.specs.Option.{option_copied}
use Rattle.xml_tree.specs.Tree.{child_elements_of}
use Rattle.node_select.proofs.NodeWalks.{kid_lower}
use Rattle.list_resolve.proofs.Spots.{low_of}
use Rattle.list_resolve.proofs.scoped_element.ScopedElement.child_element.Goals as goal

pub returns-clause-is_no_higher : goal.returns-clause-is_no_higher
returns-clause-is_no_higher c =
    let there : slice_get (child_elements_of c.args.self.now.element.now) c.args.number ≡ Some c.in_ok-child_element.child_element.now = sym c.child_element.ensures.exact ∙ ap option_copied (c.in_ok-child_element.was {u = tt}) in
    low_of c.enter_child.result c.in_ok-child_element.child_element.now c.args.self.now.element.now c.enter_child.ensures.scoped_of_child (kid_lower c.args.self.now.element.now c.args.number c.in_ok-child_element.child_element.now there)
