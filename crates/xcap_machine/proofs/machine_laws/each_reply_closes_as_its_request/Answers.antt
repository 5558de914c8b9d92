use Rattle.xcap_machine.proofs.Steps.{answer_closes}
use Rattle.xcap_machine.proofs.machine_laws.each_reply_closes_as_its_request.Goals as goal

pub returns : goal.returns
returns c = record { closes_alike = answer_closes }
