use Rattle.http_serve.specs.ReplyBytes.{StepsInBytes}
use Rattle.http_serve.proofs.LentAnswers.{fixed_answer}
use Rattle.http_serve.proofs.item_answers.answer_next.Goals as goal

pub returns-in-Err-clause-request_answer : goal.returns-in-Err-clause-request_answer
returns-in-Err-clause-request_answer g c =
    fixed_answer (StepsInBytes g.M.Machine.steps) c.args.machine.now c.try_answer.new.machine c.args.asked.now c.closing_reply.result.reply c.closing_reply.result.edit c.in-Err.ensures.err_of_request.0
    (c.closing_reply.ensures.fixed_reply, c.closing_reply.ensures.no_change, c.in-Err.ensures.err_of_request.1)
