use Rattle.xcap_machine.proofs.Reasons.{never_503}
use Rattle.xcap_machine.proofs.status_laws.no_answer_is_503.Goals as goal

pub returns : goal.returns
returns c = record { never_503 = never_503 }
