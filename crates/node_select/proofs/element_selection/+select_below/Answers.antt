use Rattle.std.proofs.Common.{◌≡◌, ℕ, ◌-◌, List, [], ◌∷◌, ◌++◌, Option, None, Some, length, length-append, take, drop, slice_get, refl, sym, ap, ◌∙◌, append_assoc, arith, rules}
use Rattle.std.proofs.lemmas.Grind.{common_steps}
use Rattle.std.specs.Option.{option_copied, option_map}
use Rattle.xml_tree.specs.TreeScopes.{inside}
use Rattle.xml_tree.specs.Tree.{Tree, child_elements_of}
use Rattle.xml_names.specs.declared.names.Decl.{Decl}
use Rattle.node_select.specs.Selection.{selected_path_among, selected_child}
use Rattle.node_select.specs.declared.selector.Step.{Step}
use Rattle.node_select.proofs.NodeWalks.{kid_lower}
use Rattle.node_select.proofs.element_selection.+select_below.Goals as goal

pub select_below-requires : goal.select_below-requires
select_below-requires t c =
    let there : slice_get (child_elements_of c.args.element.now) c.in_ok-child.child ≡ Some c.in_ok-child_element.child_element.now = sym c.child_element.ensures.exact ∙ ap option_copied (c.in_ok-child_element.was {u = tt}) in
    let lower = kid_lower c.args.element.now c.in_ok-child.child c.in_ok-child_element.child_element.now there in
    let longer = ap length c.in_ok-path.ensures.child_path ∙ length-append c.args.path (c.in_ok-child.child ∷ []) in
    (search rules, omega arith)

-- after a path that is one number longer
one_longer : (path : List ℕ) (i : ℕ) (below : Option (List ℕ)) → option_map (λ q. (path ++ i ∷ []) ++ q) below ≡ option_map (λ q. path ++ q) (option_map (λ q. i ∷ q) below)
one_longer path i None = refl
one_longer path i (Some q) = ap Some (append_assoc path (i ∷ []) q)

-- what the other steps select from the one child on that the first step selects
from_child : (scope at : List (List Decl)) (e child_element : Tree) (steps rest : List Step) (step : Step) (i : ℕ) (path on : List ℕ) (result : Option (List ℕ)) → steps ≡ step ∷ rest
    → selected_child scope step (child_elements_of e) ≡ Some i → slice_get (child_elements_of e) i ≡ Some child_element → on ≡ path ++ i ∷ [] → at ≡ inside scope child_element
    → result ≡ option_map (λ q. on ++ q) (selected_path_among at (child_elements_of child_element) rest) → result ≡ option_map (λ q. path ++ q) (selected_path_among scope (child_elements_of e) steps)
from_child scope at e child_element steps rest step i path on result parts one there way inner found =
    let below = selected_path_among (inside scope child_element) (child_elements_of child_element) rest in
    rw (parts, one, there)
    (found ∙ ap (λ (l : List ℕ). option_map (λ q. l ++ q) (selected_path_among at (child_elements_of child_element) rest)) way
    ∙ ap (λ (s : List (List Decl)). option_map (λ q. (path ++ i ∷ []) ++ q) (selected_path_among s (child_elements_of child_element) rest)) inner ∙ one_longer path i below)

pub returns : goal.returns
returns t c = record {
  exact =
      let scope = c.args.scope.now in let steps = c.args.steps.now in let child_element = c.in_ok-child_element.child_element.now in
      let step = c.step-item.result in let rest = take (length steps - 1) (drop 1 steps) in
      let parts : steps ≡ step ∷ rest = grind (arith, common_steps, c.in-len1-up.len_at_least, c.step-item.is) in
      let inner : c.inside.result ≡ inside scope child_element = c.inside.ensures.adds_declarations ∙ ap (λ (ds : List Decl). scope ++ ds ∷ []) (c.index_decls-declared.ensures.holds_declarations ∙ c.decls.ensures.exact) in
      from_child scope c.inside.result c.args.element.now child_element steps rest step c.in_ok-child.child c.args.path c.in_ok-path.path c.select_below.result parts
      (sym c.in_ok-child.ensures.exact) (sym c.in_ok-child_element.ensures.exact) c.in_ok-path.ensures.child_path inner
      c.select_below.ensures.exact;
}
