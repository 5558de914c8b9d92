use Rattle.std.proofs.Common.{◌<◌, ◌+◌, ◌-◌, ◌∷◌, [], List, length, take, drop, Some, IsTrue, refl, sym, ◌∙◌, subst, arith}
use Rattle.node_select.specs.StepSelection.{child_matches, matches}
use Rattle.xml_tree.specs.Tree.{child_elements_of}
use Rattle.xml_names.specs.declared.names.Decl.{Decl}
use Rattle.node_select.specs.declared.descent.Reached.{Reached}
use Rattle.node_select.specs.declared.selector.Step.{Step}
use Rattle.node_select.specs.Selection.{IsLongestMatch, SelectsPath, step_tests}
use Rattle.node_select.proofs.LongestWays.{first_and_rest, onwards}
use Rattle.node_select.proofs.ReachLemmas.{depth_within, length-take-le}
use Rattle.node_select.proofs.descent.reach.Goals as goal

pub overflow_add-result : goal.overflow_add-result
overflow_add-result c =
    let rest = take (length c.args.steps.now - 1) (drop 1 c.args.steps.now) in
    omega (arith, c.reach_inside-below.ensures.reaches_below.counted, depth_within rest (c.args.root.now.decls ∷ []) (child_elements_of c.args.root.now), length-take-le (length c.args.steps.now - 1) (drop 1 c.args.steps.now))

pub returns-clause-longest_selecting : goal.returns-clause-longest_selecting
returns-clause-longest_selecting c =
    let root = c.args.root.now in
    let s = c.step-item.result in
    let steps = c.args.steps.now in
    let rest = take (length steps - 1) (drop 1 steps) in
    let below = c.reach_inside-below.result in
    let made : Reached = record { steps = 1 + below.steps; path = below.path } in
    let m : IsTrue (matches (step_tests [] s) (root ∷ []) 0) = subst (λ (e : List (List Decl)). IsTrue (child_matches (step_tests e s) 0 (Some root))) c.empty.ensures.declares_nothing (sym c.is_match.ensures.exact ∙ c.if-not-is_match.false) in
    let on = onwards s rest root below made m c.reach_inside-below.ensures.reaches_below (omega arith) refl in
    subst (λ (l : List Step). IsLongestMatch l root made.steps) (sym (first_and_rest steps s c.in-len1-up.len_at_least c.step-item.is)) on.0

pub returns-clause-path_is_selected : goal.returns-clause-path_is_selected
returns-clause-path_is_selected c =
    let root = c.args.root.now in
    let s = c.step-item.result in
    let steps = c.args.steps.now in
    let rest = take (length steps - 1) (drop 1 steps) in
    let below = c.reach_inside-below.result in
    let made : Reached = record { steps = 1 + below.steps; path = below.path } in
    let m : IsTrue (matches (step_tests [] s) (root ∷ []) 0) = subst (λ (e : List (List Decl)). IsTrue (child_matches (step_tests e s) 0 (Some root))) c.empty.ensures.declares_nothing (sym c.is_match.ensures.exact ∙ c.if-not-is_match.false) in
    let on = onwards s rest root below made m c.reach_inside-below.ensures.reaches_below (omega arith) refl in
    subst (λ (l : List Step). 0 < made.steps → SelectsPath (take made.steps l) root made.path) (sym (first_and_rest steps s c.in-len1-up.len_at_least c.step-item.is)) on.1
