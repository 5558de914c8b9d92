use Rattle.std.proofs.Common.{◌≡◌, ◌↔◌, List, ℕ, Option, Some, sym, subst}
use Rattle.node_select.specs.Selection.{SelectsPath}
use Rattle.node_select.proofs.ReachLemmas.{path_is}
use Rattle.node_select.proofs.element_selection.select_steps.Goals as goal

pub returns-clause-selected_path : goal.returns-clause-selected_path
returns-clause-selected_path c =
    let root = c.args.root.now in let steps = c.args.steps.now in
    subst (λ (o : Option (List ℕ)). (p : List ℕ) → (o ≡ Some p) ↔ SelectsPath steps root p) (sym c.select_outside.ensures.exact) (path_is steps root)
