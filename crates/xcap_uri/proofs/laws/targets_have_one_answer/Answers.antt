use Rattle.xcap_uri.proofs.TargetAnswers.{some_target, one_target, read_answered, readable_target}
use Rattle.xcap_uri.proofs.laws.targets_have_one_answer.Goals as goal

pub returns : goal.returns
returns c = record {
  exists_one = some_target;
  at_most_one = one_target;
  answer_is_exact = read_answered;
  ids_are_readable = readable_target;
}
