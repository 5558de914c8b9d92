use Rattle.std.proofs.Common.{◌≡◌, ◌+◌, ◌-◌, ◌++◌, ◌∷◌, [], List, ℕ, length, length-append, take, drop, Some, slice_get, refl, sym, ap, ◌∙◌, subst, arith, rules}
use Rattle.std.specs.Option.{option_copied}
use Rattle.xml_tree.specs.Tree.{child_elements_of}
use Rattle.xml_names.specs.declared.names.Decl.{Decl}
use Rattle.xml_tree.specs.TreeScopes.{inside}
use Rattle.node_select.specs.declared.descent.Reached.{Reached}
use Rattle.node_select.specs.declared.selector.Step.{Step}
use Rattle.node_select.specs.inner.LongestMatches.{ReachesBelow}
use Rattle.node_select.specs.Selection.{selected_child}
use Rattle.node_select.proofs.LongestWays.{first_and_rest, goes_on}
use Rattle.node_select.proofs.ReachLemmas.{among_missing, depth_within, length-take-le}
use Rattle.node_select.proofs.NodeWalks.{kid_lower}
use Rattle.node_select.proofs.descent.+reach_below.Goals as goal

pub unreachable-requires : goal.unreachable-requires
unreachable-requires t c =
    among_missing c.args.scope.now (child_elements_of c.args.element.now) c.step-item.result [] c.in-Some.child (sym c.select_child.ensures.exact ∙ c.in-Some.is) (sym c.child_element.ensures.exact ∙ ap option_copied c.in_default-child_element.is)

pub reach_below-below-requires : goal.reach_below-below-requires
reach_below-below-requires t c =
    let there : slice_get (child_elements_of c.args.element.now) c.in-Some.child ≡ Some c.in-Some-child_element.child_element.now = sym c.child_element.ensures.exact ∙ ap option_copied c.in-Some-child_element.is in
    let lower = kid_lower c.args.element.now c.in-Some.child c.in-Some-child_element.child_element.now there in
    let longer = ap (λ (p : List ℕ). length p) (c.in-Some-child.ensures {u = tt}).child_path ∙ length-append c.args.path (c.in-Some.child ∷ []) in
    let low = c.requires in
    (search rules, omega arith)

pub overflow_add-result : goal.overflow_add-result
overflow_add-result t c =
    let rest = take (length c.args.steps.now - 1) (drop 1 c.args.steps.now) in
    omega (arith, c.reach_below-below.ensures.reaches_below.counted, depth_within rest c.inside-inside.result (child_elements_of c.in-Some-child_element.child_element.now), length-take-le (length c.args.steps.now - 1) (drop 1 c.args.steps.now))

pub returns : goal.returns
returns t c = record {
  reaches_below =
      let scope = c.args.scope.now in
      let child_elements = child_elements_of c.args.element.now in
      let steps = c.args.steps.now in
      let rest = take (length steps - 1) (drop 1 steps) in
      let child_element = c.in-Some-child_element.child_element.now in
      let below = c.reach_below-below.result in
      let made : Reached = record { steps = 1 + below.steps; path = below.path } in
      let there : slice_get child_elements c.in-Some.child ≡ Some child_element = sym c.child_element.ensures.exact ∙ ap option_copied c.in-Some-child_element.is in
      let one : selected_child scope c.step-item.result child_elements ≡ Some c.in-Some.child = sym c.select_child.ensures.exact ∙ c.in-Some.is in
      let scope_is : c.inside-inside.result ≡ inside scope child_element = c.inside-inside.ensures.adds_declarations ∙ ap (λ (ds : List Decl). scope ++ ds ∷ []) (c.index_decls-declared.ensures.holds_declarations ∙ c.decls.ensures.exact) in
      let on = subst (λ (b : List ℕ). ReachesBelow (inside scope child_element) (child_elements_of child_element) rest b below) (c.in-Some-child.ensures {u = tt}).child_path
      (subst (λ (d : List (List Decl)). ReachesBelow d (child_elements_of child_element) rest c.in-Some-child.longer below) scope_is c.reach_below-below.ensures.reaches_below) in
      subst (λ (l : List Step). ReachesBelow scope child_elements l c.args.path made) (sym (first_and_rest steps c.step-item.result c.in-len1-up.len_at_least c.step-item.is))
      (goes_on scope child_elements c.step-item.result rest c.args.path c.in-Some.child child_element below made one there on (omega arith) refl);
}
