use Rattle.xcap_machine.proofs.StandardAnswers.{one_standard, some_standard}
use Rattle.xcap_machine.proofs.machine_laws.the_standards_leave_one_answer.Goals as goal

pub returns-clause-answer_exists : goal.returns-clause-answer_exists
returns-clause-answer_exists c = some_standard

pub returns-clause-answers_are_one : goal.returns-clause-answers_are_one
returns-clause-answers_are_one c = one_standard
