use Rattle.tree_text.proofs.OneAnswer.{one_text}
use Rattle.tree_text.proofs.ReadAnswers.{text_answer}
use Rattle.tree_text.proofs.reading_laws.texts_have_one_answer.Goals as goal

pub returns : goal.returns
returns c = record {
  answer_is_exact = text_answer;
  at_most_one = one_text;
}
