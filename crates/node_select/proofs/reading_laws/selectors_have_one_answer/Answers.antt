use Rattle.node_select.proofs.ExactSelectors.{one_selector, selector_answer}
use Rattle.node_select.proofs.reading_laws.selectors_have_one_answer.Goals as goal

pub returns : goal.returns
returns c = record {
  answer_is_exact = selector_answer;
  at_most_one = one_selector;
}
