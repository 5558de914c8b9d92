use Rattle.xcap_laws.proofs.Access.{forbidden_alike, forbidden_answer, forbidden_unchanged}
use Rattle.xcap_laws.proofs.access_laws.strangers_learn_nothing.Goals as goal

pub returns : goal.returns
returns c = record { answer_is_fixed = forbidden_answer; same_answer = forbidden_alike; changes_nothing = forbidden_unchanged }
