use Rattle.usage_docs.proofs.Judgements.{judged_one, judgement}
use Rattle.usage_docs.proofs.validation_laws.each_tree_has_one_judgement.Goals as goal

pub returns : goal.returns
returns c = record { fault_exists = judgement; answer_is_one = judged_one }
