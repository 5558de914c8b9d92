use Rattle.http_serve.proofs.LentAnswers.{lent_answer}
use Rattle.http_serve.proofs.connection.lend_reply.Goals as goal

pub returns-in-Ok : goal.returns-in-Ok
returns-in-Ok g c = record {
  request_answer =
      lent_answer g.M.Machine.steps c.args.machine.now c.in-Request.request c.args.asked.now c.in-Request.is c.in-Ok.lent c.in-Ok.ensures.makes_step c.in-Ok.ensures.closes_as_asked;
}
