use Rattle.tree_text.proofs.OneAnswer.{one_body}
use Rattle.tree_text.proofs.ReadAnswers.{body_answer}
use Rattle.tree_text.proofs.reading_laws.bodies_have_one_answer.Goals as goal

pub returns : goal.returns
returns c = record {
  answer_is_exact = body_answer;
  at_most_one = one_body;
}
