use Rattle.xcap_machine.proofs.Steps.{refusal_reply, told, untold}
use Rattle.xcap_machine.proofs.machine_laws.what_is_refused_changes_nothing.Goals as goal

pub returns-clause-unnotified_unchanged : goal.returns-clause-unnotified_unchanged
returns-clause-unnotified_unchanged c = untold

pub returns-clause-refused_unchanged : goal.returns-clause-refused_unchanged
returns-clause-refused_unchanged c = refusal_reply

pub returns-clause-reported_takes_number : goal.returns-clause-reported_takes_number
returns-clause-reported_takes_number c = told
