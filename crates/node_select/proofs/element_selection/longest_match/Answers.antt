use Rattle.std.proofs.Common.{sym, ◌∙◌, ap, subst}
use Rattle.node_select.specs.Selection.{IsLongestMatch, longest_match_in}
use Rattle.node_select.proofs.ReachLemmas.{longest_is}
use Rattle.node_select.proofs.element_selection.longest_match.Goals as goal

pub returns-clause-longest_selecting : goal.returns-clause-longest_selecting
returns-clause-longest_selecting c =
    let root = c.args.root.now in let steps = c.args.selector.now.steps in
    subst (λ k. IsLongestMatch steps root k) (sym (c.count_matched_steps.ensures.exact ∙ ap (λ ss. longest_match_in ss root) c.as_slice.ensures.exact)) (longest_is steps root)
