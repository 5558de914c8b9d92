use Rattle.node_select.proofs.ExactSelectors.{one_patch_selector, patch_selector_answer}
use Rattle.node_select.proofs.reading_laws.patch_selectors_have_one_answer.Goals as goal

pub returns : goal.returns
returns c = record {
  answer_is_exact = patch_selector_answer;
  at_most_one = one_patch_selector;
}
