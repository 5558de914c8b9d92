use Rattle.xcap_machine.proofs.StandardAnswers.{is_standard_step, some_standard_step, standard_answer}
use Rattle.xcap_machine.proofs.machine_laws.each_answer_is_by_the_standards.Goals as goal

pub returns-clause-standard_answer : goal.returns-clause-standard_answer
returns-clause-standard_answer c = standard_answer

pub returns-clause-standard_step : goal.returns-clause-standard_step
returns-clause-standard_step c = is_standard_step

pub returns-clause-step_exists : goal.returns-clause-step_exists
returns-clause-step_exists c = some_standard_step
