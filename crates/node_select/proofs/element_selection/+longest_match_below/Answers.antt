use Rattle.std.proofs.Common.{◌-◌, length, drop, take, arith}
use Rattle.xml_tree.specs.Tree.{child_elements_of}
use Rattle.node_select.proofs.ReachLemmas.{depth_within, length-take-le}
use Rattle.node_select.proofs.element_selection.+longest_match_below.Goals as goal

pub overflow_add-result : goal.overflow_add-result
overflow_add-result t c =
    let rest = take (length c.args.steps.now - 1) (drop 1 c.args.steps.now) in
    omega (arith, c.longest_match_below.ensures.exact, depth_within rest c.inside.result (child_elements_of c.in-Some-child_element.child_element.now), length-take-le (length c.args.steps.now - 1) (drop 1 c.args.steps.now))
