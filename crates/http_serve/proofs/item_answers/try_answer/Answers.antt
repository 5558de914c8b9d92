use Rattle.http_serve.proofs.LentAnswers.{step_answer}
use Rattle.http_serve.proofs.item_answers.try_answer.Goals as goal

pub returns-in-Ok-clause-request_answer : goal.returns-in-Ok-clause-request_answer
returns-in-Ok-clause-request_answer g c =
    step_answer g.M.Machine.steps c.args.machine.now c.in-Request.request c.args.asked.now c.in-Request.is c.answer.new.self c.in-Ok.answered.reply c.in-Ok.answered.edit c.in-Ok.ensures.makes_step c.in-Ok.ensures.closes_as_asked

pub returns-in-Err-clause-err_of_request : goal.returns-in-Err-clause-err_of_request
returns-in-Err-clause-err_of_request g c = ((c.in-Request.request, c.in-Request.is), c.in-Err.ensures.err_unchanged)
