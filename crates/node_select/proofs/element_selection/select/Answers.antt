use Rattle.std.proofs.Common.{◌≡◌, ◌↔◌, List, ℕ, Option, Some, sym, ◌∙◌, ap, subst}
use Rattle.node_select.specs.Selection.{SelectsPath, selected_element_path}
use Rattle.node_select.proofs.ReachLemmas.{path_is}
use Rattle.node_select.proofs.element_selection.select.Goals as goal

pub returns-clause-selected_path : goal.returns-clause-selected_path
returns-clause-selected_path c =
    let root = c.args.root.now in let steps = c.args.selector.now.steps in
    subst (λ (o : Option (List ℕ)). (p : List ℕ) → (o ≡ Some p) ↔ SelectsPath steps root p) (sym (c.select_steps.ensures.exact ∙ ap (λ ss. selected_element_path ss root) c.as_slice.ensures.exact)) (path_is steps root)
