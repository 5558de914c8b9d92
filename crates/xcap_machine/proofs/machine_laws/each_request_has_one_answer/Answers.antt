use Rattle.xcap_machine.proofs.OneAnswer.{one_answer, some_answer}
use Rattle.xcap_machine.proofs.Steps.{one_held, one_step, some_step}
use Rattle.xcap_machine.proofs.machine_laws.each_request_has_one_answer.Goals as goal

pub returns-clause-answer_exists : goal.returns-clause-answer_exists
returns-clause-answer_exists c = some_answer

pub returns-clause-answers_are_one : goal.returns-clause-answers_are_one
returns-clause-answers_are_one c = one_answer

pub returns-clause-one_outcome : goal.returns-clause-one_outcome
returns-clause-one_outcome c = one_held

pub returns-clause-step_exists : goal.returns-clause-step_exists
returns-clause-step_exists c = some_step

pub returns-clause-steps_are_one : goal.returns-clause-steps_are_one
returns-clause-steps_are_one c = one_step
