use Rattle.std.proofs.Common.{◌-◌, ◌∷◌, [], length, drop, take, arith}
use Rattle.xml_tree.specs.Tree.{child_elements_of}
use Rattle.node_select.proofs.ReachLemmas.{depth_within, length-take-le}
use Rattle.node_select.proofs.element_selection.count_matched_steps.Goals as goal

pub overflow_add-result : goal.overflow_add-result
overflow_add-result c =
    let rest = take (length c.args.steps.now - 1) (drop 1 c.args.steps.now) in
    omega (arith, c.longest_match_inside.ensures.exact, depth_within rest (c.args.root.now.decls ∷ []) (child_elements_of c.args.root.now), length-take-le (length c.args.steps.now - 1) (drop 1 c.args.steps.now))
